-- The numbers that are bound in events, and laws of them: what a form's own bindings are, and one part after another.
use Rattle.std.specs.Prelude.{◌≡◌, List, [], ◌∷◌, ◌++◌, ℕ, zero, suc, ◌+◌}
use Rattle.std.proofs.Common.{◌∙◌}
use Rattle.recipe.specs.Name.{Binding, variable, macro}
use Rattle.expansion.specs.Computation.{looked, quoted, reached, binds, Events}

-- ---- the numbers bound

-- of a binding: its number where it is a variable's, or a macro's
unfoldable pub variable_number : Binding → List ℕ
variable_number (variable n) = n ∷ []
variable_number (macro n) = []

unfoldable pub macro_number : Binding → List ℕ
macro_number (variable n) = []
macro_number (macro n) = n ∷ []

-- of events: what `number` tells of each binding made, in order
unfoldable pub bound_by : (number : Binding → List ℕ) → Events → List ℕ
bound_by number [] = []
bound_by number (looked x ∷ l) = bound_by number l
bound_by number (quoted x ∷ l) = bound_by number l
bound_by number (reached x ∷ l) = bound_by number l
bound_by number (binds b x ∷ l) = number b ++ bound_by number l

-- k, k + 1, .., n of them
unfoldable pub up_from : ℕ → ℕ → List ℕ
up_from k zero = []
up_from k (suc n) = k ∷ up_from (suc k) n
