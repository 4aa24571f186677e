-- The bytes passed stand in the slot, behind the length.
use Rattle.std.proofs.Common.{◌≡◌, ◌≤◌, length}
use Rattle.std.proofs.Math.Seq.{paste}
use Rattle.reader.proofs.names.store.Given as goal

abbrev pub invariant-loop-i : goal.invariant-loop-i
invariant-loop-i l =
    (length l.names ≡ length l.initial.names) × (l.i ≤ length l.word) × (l.names ≡ paste l.initial.names l.from l.word l.i)
