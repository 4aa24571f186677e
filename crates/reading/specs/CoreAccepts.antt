-- Reading with one element wanted accepts exactly the texts of one element, and gives its numbering.
use Rattle.std.specs.Prelude.{◌≡◌, List, ℕ, ◌≤◌}
use Rattle.std.proofs.Common.{◌∙◌}
use Rattle.words.specs.Limits.{item_words_least, name_bytes_least}
use Rattle.reading.specs.Read.{Recipe}
use Rattle.reading.specs.RecipeText.{Element}
use Rattle.reading.specs.CoreText.{CoreText, core_element}

-- a reading that was accepted: its tables, and the element of its text
pub record AcceptedOne (text : List ℕ) (items names : ℕ) (r : Recipe) : Type 0 where
  pub enough_items : item_words_least ≤ items
  pub enough_names : name_bytes_least ≤ names
  pub element : Element
  pub is_core : CoreText text element
  pub same : r ≡ core_element element
