-- What is left to be searched answers as the whole environment does.
use Prim.Native.Nat.{◌*◌, ◌≤◌}
use lib.ListN.{length}
use Rattle.runner.specs.FoundLaws.{Seeking}
use Rattle.runner.proofs.rows.find.Given as goal

abbrev pub invariant-loop-e : goal.invariant-loop-e
invariant-loop-e l = (16 * l.e ≤ length l.table) × Seeking l.table l.number l.environment l.e

abbrev pub decreases-loop-e : goal.decreases-loop-e
decreases-loop-e l = l.e
