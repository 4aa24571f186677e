use Rattle.std.proofs.Common.{◌≡◌, ◌-◌, length}
use Rattle.core_term.specs.Code.Scan.{Scan}
use Rattle.writer.specs.CalledLaws.{Notes}
use Rattle.writer.proofs.called.note.Given as goal

abbrev pub invariant-loop-seen : goal.invariant-loop-seen
invariant-loop-seen l = Scan l.words l.at l.seen × (length l.table ≡ length l.fn.table) × Notes l.words l.seen l.table

abbrev pub decreases-loop-seen : goal.decreases-loop-seen
decreases-loop-seen l = length l.words - l.at
