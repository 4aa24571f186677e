-- A renaming of a template's private name, its copies, and what the first run may show of them.
use Rattle.std.specs.Prelude.{◌≡◌, Bool, true, false, ℕ, eqb}
use Rattle.std.proofs.Common.{◌∙◌}
use Rattle.std.proofs.Math.Option.{Option, none, some}
use Rattle.recipe.specs.Name.{Binding, Name}
use Rattle.expansion.specs.Computation.{Event, looked, quoted, reached, binds}
use Rattle.private_names.specs.Statement as Statement

-- the items of the private name in its template; the bindings whose own name is a copy;
-- its number in the first run and in the second, neither that of `...` nor that of `_`
pub record Renaming : Type 0 where
  pub is_private : (item : ℕ) → Bool
  pub is_owned : Binding → Bool
  pub old : ℕ
  pub new : ℕ
  pub old-6 : eqb old 6 ≡ false
  pub old-7 : eqb old 7 ≡ false
  pub new-6 : eqb new 6 ≡ false
  pub new-7 : eqb new 7 ≡ false

module _ (ρ : Renaming) where
  -- a copy, as the statement has it: a name in a step's result that stems from an item of the private name
  abbrev pub is_copy : Name → Bool
  is_copy = Statement.is_copy ρ.is_private

  -- a binding whose own name is a copy
  unfoldable pub of_copy : Option Binding → Bool
  of_copy none = false
  of_copy (some b) = ρ.is_owned b

  -- ---- what the first run may show: each lookup of a copy finds a binding whose own name is a copy, and no copy is quoted

  unfoldable pub Fine : Event → Type 0
  Fine (looked x) = is_copy x ≡ true → of_copy x.binding ≡ true
  Fine (quoted x) = is_copy x ≡ false
  Fine (reached x) = Unit {0}
  Fine (binds b x) = of_copy (some b) ≡ is_copy x
