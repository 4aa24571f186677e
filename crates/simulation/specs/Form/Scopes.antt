-- Names in place, which never stood in a result: they have no marks, and their number tells their binding, in the scope at hand.
use Rattle.std.specs.Prelude.{◌≡◌, false, ◌||◌, cond, List, [], ◌∷◌, ℕ, suc, eqb}
use Rattle.std.proofs.Common.{◌∙◌}
use Rattle.std.proofs.Math.Option.{Option, some}
use Rattle.recipe.specs.Name.{Binding, Name}

-- the bindings in force, by number
abbrev pub Scope : Type 0
Scope = ℕ → Option Binding

pub record Placed (β : Scope) (x : Name) : Type 0 where
  pub unproduced : x.produced ≡ false
  pub unmarked : x.marks ≡ []
  pub bound : x.binding ≡ β x.number

-- a name is bound
unfoldable pub rebind : ℕ → Binding → Scope → Scope
rebind n b β = λ k. cond (eqb n k) (some b) (β k)

unfoldable pub rebind_all : (ℕ → Binding) → ℕ → List Name → Scope → Scope
rebind_all f k [] β = β
rebind_all f k (x ∷ xs) β = rebind_all f (suc k) xs (rebind x.number (f k) β)

-- ---- the variables of a rule, by number

-- names of one number in two scopes
pub record Moved (β γ : Scope) (x y : Name) : Type 0 where
  pub from : Placed β x
  pub to : Placed γ y
  pub number : x.number ≡ y.number
