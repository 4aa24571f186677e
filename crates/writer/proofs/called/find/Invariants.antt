-- The names before a node are seen; the one that is looked for is not among them.
use Rattle.std.proofs.Common.{◌-◌, ◌≤◌, length}
use Rattle.core_term.specs.Code.Scan.{Scan}
use Rattle.writer.proofs.called.find.Given as goal

abbrev pub invariant-loop-at : goal.invariant-loop-at
invariant-loop-at l = Scan l.words l.at l.seen × (l.seen ≤ l.n)

abbrev pub decreases-loop-at : goal.decreases-loop-at
decreases-loop-at l = length l.words - l.at
