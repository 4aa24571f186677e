-- The first i names are noted at `at`.
use Rattle.std.proofs.Common.{◌≡◌, ◌≤◌, length}
use Rattle.std.proofs.Math.Seq.{paste}
use Rattle.writer.proofs.called.put.Given as goal

abbrev pub invariant-loop-i : goal.invariant-loop-i
invariant-loop-i l =
    (length l.table ≡ length l.initial.table) × (l.i ≤ length l.names) × (l.table ≡ paste l.initial.table l.at l.names l.i)
