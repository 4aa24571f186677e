-- Expansion makes sound terms: from a tree and a state of a world, every node of the term is one, its variables are of the world or bound
-- inside, its lambdas' first numbers go on from the state's count, its operations and names are known, and the world stays closed.
use Rattle.std.specs.Prelude.{◌≡◌, Bool, ◌&&◌}
use Rattle.std.proofs.Math.Bool.{true}
use mathlib.Core.List.{[], ◌++◌}
use Prim.Native.Nat.{ℕ, ◌+◌, ◌≤◌, ◌<◌}
use Rattle.core_term.specs.Term.{variables}
use Rattle.expansion.specs.Computation.{State, Out}
use Rattle.expansion.specs.Outcomes.{Holds}
use Rattle.expansion.specs.CoreTerm.WorldState.{Grown}

-- ---- what is made

-- from s to u: the test is passed, n variables are bound, and macros are only added
pub record Made (s : State) (test : Bool) (n : ℕ) (u : State) : Type 0 where
  pub passed : test ≡ true
  pub counted : u.variables ≡ s.variables + n
  pub grown : Grown s u

-- of an outcome, where it is done
abbrev pub Makes : {A : Type 0} → (A → State → Type 0) → Out A → Type 0
Makes Q o = Holds (Unit {0}) (λ g u l. Unit {0}) (λ a u l. Q a u) o
