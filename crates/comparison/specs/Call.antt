-- The claims of Yes for the call, from the recipe's tables, our words and the bytes of the text.
use Rattle.std.specs.Prelude.{◌≡◌, true, List, [], ◌∷◌, ℕ}
use Rattle.std.proofs.Common.{◌∙◌}
use Rattle.std.proofs.Math.Option.{some}
use Rattle.words.specs.Lists.{all_of}
use Rattle.datum.specs.NameTable.{has_name, name_at}
use Rattle.reading.specs.Elements.{got}
use Rattle.reading.specs.Read.{Recipe, read_elements}
use Rattle.recipe.specs.Table.{is_layout, tree_of}
use Rattle.core_term.specs.Term.{Plain}
use Rattle.expansion.specs.Run.{operation_numbers, are_operations}
use Rattle.comparison.specs.Compare.{spelled_operations, our_term}
use Rattle.comparison.specs.Binders.{binders, our_binders}
use Rattle.comparison.specs.Yes.{Told}

-- what the tests before the text let pass, with our term
pub record Ready (items names words : List ℕ) (t : Plain) : Type 0 where
  pub layout : is_layout items ≡ true
  pub operations : are_operations (tree_of items) ≡ true
  pub term : our_term items names words ≡ some t
  pub named : all_of (has_name names) (operation_numbers (tree_of items)) ≡ true

-- ---- what yes of the call says

-- the tests passed, the text was read, and its element is an expression that is our term, with the same binders
pub record Called (items names words text : List ℕ) (n m : ℕ) : Type 0 where
  pub term : Plain
  pub ready : Ready items names words term
  pub reading : Recipe
  pub is_read : read_elements 1 text n m ≡ got reading
  pub told : Told (name_at names) (spelled_operations items names) term reading
  pub same-binders : binders [] told.expression ≡ our_binders [] term
