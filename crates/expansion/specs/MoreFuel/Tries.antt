-- A computation on one fuel beside the same on more: they go alike, or the first is 18 and the second goes past its fuel; or the first is
-- refused on a ground that is let be. One rule for each way of making a computation; `step-tries` alone is about a line that differs.
use Rattle.std.specs.Prelude.{◌≡◌, Bool}
use Rattle.std.proofs.Math.Bool.{true}
use mathlib.Core.List.{[]}
use Prim.Native.Nat.{ℕ, suc, ◌+◌, ◌≤◌, ◌<◌}
use Rattle.expansion.specs.Computation.{State, Events, Out, refused, starved, ◌>>=◌, ◌>>◌}
use Rattle.expansion.specs.Outcomes.{Holds}

-- wherever it ends, the sum is n or more
abbrev pub Above : {A : Type 0} → ℕ → Out A → Type 0
Above n o = Holds (Unit {0}) (λ g u l. n ≤ u.sum) (λ a u l. n ≤ u.sum) o

-- what the fuel gives, and what more gives: the same; 18, and a sum past the fuel; a ground that is let be; or out of gas, which no run
-- is (Gas)
pub data Beside (let-be : ℕ → Bool) (fuel : ℕ) {A : Type 0} : Out A → Out A → Type 0 where
  alike : {x : Out A} → Beside let-be fuel x x
  short : {s : State} {l : Events} {y : Out A} → Above (suc fuel) y → Beside let-be fuel (refused 18 s l) y
  quits : {g : ℕ} {s : State} {l : Events} {y : Out A} → let-be g ≡ true → Beside let-be fuel (refused g s l) y
  starves : {l : Events} {y : Out A} → Beside let-be fuel (starved l) y

-- from state s; and sums only grow
pub record Tries (let-be : ℕ → Bool) (fuel : ℕ) {A : Type 0} (s : State) (x y : Out A) : Type 0 where
  pub grown : Above s.sum y
  pub beside : Beside let-be fuel x y
