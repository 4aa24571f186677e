-- Own names: in one run no number is bound twice, so that a binding has one own name.
use Rattle.std.proofs.Math.Path.{◌≡◌}
use Rattle.std.proofs.Common.{◌∙◌}
use Rattle.std.specs.Prelude.{◌⊎◌, ℕ, ◌≤◌}
use mathlib.Core.List.{List, [], ◌∷◌, ◌++◌}
use Rattle.recipe.specs.Name.{Binding, Name}
use Rattle.expansion.specs.Computation.{looked, quoted, reached, binds, Events}
use Rattle.expansion.specs.Ways.Bindings.{variable_number, macro_number, bound_by, up_from}

-- the bindings made, in order, each with its own name
unfoldable pub bindings_made : Events → List (Binding × Name)
bindings_made [] = []
bindings_made (looked x ∷ l) = bindings_made l
bindings_made (quoted x ∷ l) = bindings_made l
bindings_made (reached x ∷ l) = bindings_made l
bindings_made (binds b x ∷ l) = (b, x) ∷ bindings_made l

-- ---- of a run

-- variables and macros are numbered from 0, in order
pub record InOrder (l : Events) : Type 0 where
  pub v : ℕ
  pub m : ℕ
  pub variables : bound_by variable_number l ≡ up_from 0 v
  pub macros : bound_by macro_number l ≡ up_from 0 m
