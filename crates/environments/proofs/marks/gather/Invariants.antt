-- `marks::gather` goes from the last variable to the first: what the lists that are left tell after those so far, all tell after the
-- others.
use Rattle.std.proofs.Common.{Ok, ◌-◌, ◌≤◌}
use Rattle.environments.specs.Lengths.{Driving}
use Rattle.environments.specs.Marks.{Gathers}
use Rattle.environments.proofs.marks.gather.Given as goal

abbrev pub invariant-loop-i : goal.invariant-loop-i
invariant-loop-i l =
    (l.i ≤ l.n) × ((r : Driving) → Gathers l.work l.env l.marks l.level (l.n - l.i) (Ok l.so_far) r → Gathers l.work l.env l.marks l.level l.n (Ok l.fn.before) r)
