-- What holds of an outcome, and one rule for each way of making a computation: a `do` block is proved line by line.
-- Every law about computations goes by these rules; a claim may speak of the answer, the state, the events and the ground.
use Rattle.std.specs.Prelude.{◌≡◌, ℕ, ◌+◌}
use mathlib.Core.List.{[], ◌++◌}
use Rattle.expansion.specs.Computation.{State, Events, Out, done, refused, starved, ◌>>=◌, ◌>>◌}

-- Q holds where it is done, R where it is refused, S where it is out of gas
pub data Holds {A : Type 0} (S : Type 0) (R : ℕ → State → Events → Type 0) (Q : A → State → Events → Type 0) : Out A → Type 0 where
  is_done : {a : A} {s : State} {l : Events} → Q a s l → Holds S R Q (done a s l)
  is_refused : {g : ℕ} {s : State} {l : Events} → R g s l → Holds S R Q (refused g s l)
  is_starved : {l : Events} → S → Holds S R Q (starved l)
