-- Reading accepts exactly the texts of as many elements as are wanted, and gives their numbering; a recipe text is the case of two.
-- The interface is accepts-elements, accepted-elements and has-once, of a recipe text accepts, accepted-only and elements-once; N and the
-- names of an accepted text stand in AcceptedLaws.
use Rattle.std.specs.Prelude.{◌≡◌, List, [], ◌∷◌, ◌++◌}
use Rattle.std.proofs.Common.{◌∙◌}
use Prim.Native.Nat.{ℕ, suc, ◌≤◌}
use Rattle.words.specs.Limits.{item_words_least, name_bytes_least}
use Rattle.reading.specs.Read.{Recipe}
use Rattle.reading.specs.RecipeText.{Element, Elements, none_e, more_e, HasElements, said_by, RecipeText, recipe}

-- ---- a text's elements, one after another

-- how many elements a text has
unfoldable pub many : Elements → ℕ
many none_e = 0
many (more_e x xs) = suc (many xs)

-- ---- and no other text is

-- a reading that was accepted: its tables, and the elements of its text
pub record AcceptedElements (n : ℕ) (text : List ℕ) (items names : ℕ) (r : Recipe) : Type 0 where
  pub enough_items : item_words_least ≤ items
  pub enough_names : name_bytes_least ≤ names
  pub elements : Elements
  pub wanted : many elements ≡ n
  pub has : HasElements text elements
  pub same : r ≡ said_by elements

-- ---- recipe texts

-- a reading that was accepted: its tables, and the two elements of its text
pub record Accepted (text : List ℕ) (items names : ℕ) (r : Recipe) : Type 0 where
  pub enough_items : item_words_least ≤ items
  pub enough_names : name_bytes_least ≤ names
  pub first : Element
  pub second : Element
  pub is_recipe : RecipeText text first second
  pub same : r ≡ recipe first second
