-- The answer of the call is yes exactly where the text is read as a rendering of our term.
use Rattle.std.specs.Prelude.{◌≡◌, true}
use Rattle.std.proofs.Common.{◌∙◌}
use mathlib.Core.List.{List, []}
use Prim.Native.Nat.{ℕ}
use Rattle.datum.specs.Datum.{none_d, more_d}
use Rattle.datum.specs.NameTable.{name_at}
use Rattle.reading.specs.Elements.{got}
use Rattle.reading.specs.Read.{Recipe, read_elements, name_bytes}
use Rattle.core_term.specs.Term.{Plain}
use Rattle.comparison.specs.Compare.{spelled_operations}
use Rattle.comparison.specs.Rendering.{Choice, render, Uncaptured}
use Rattle.comparison.specs.Written.{written, is_expression}
use Rattle.comparison.specs.Call.{Ready}

-- the tests before the text pass, the text is read, and its one element is our term written in names of some choice, within the grammar,
-- which captures no reference and spells other names as ours
pub record ReadAsRendering (items names words text : List ℕ) (n m : ℕ) : Type 0 where
  pub term : Plain
  pub ready : Ready items names words term
  pub reading : Recipe
  pub is_read : read_elements 1 text n m ≡ got reading
  pub choice : Choice
  pub in-grammar : is_expression (render choice term) ≡ true
  pub uncaptured : Uncaptured choice (name_at (name_bytes reading)) (name_at names) (spelled_operations items names) [] term
  pub is-element : reading.elements ≡ more_d (written (render choice term)) none_d
