-- Computations that agree where what the first shows is fine: one rule for each way to put computations together.
use Rattle.std.specs.Prelude.{◌≡◌, ◌≤◌}
use mathlib.Core.List.{[], ◌++◌}
use Rattle.expansion.specs.Computation.{Events, Out, done, refused, starved, ◌>>=◌, ◌>>◌}

-- what a computation shows
unfoldable pub events_of : {A : Type 0} → Out A → Events
events_of (done a s l) = l
events_of (refused g s l) = l
events_of (starved l) = l
