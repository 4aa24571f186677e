-- The words passed stand from `at` on.
use Rattle.std.proofs.Common.{◌≡◌, ◌≤◌, length}
use Rattle.std.proofs.Math.Seq.{paste}
use Rattle.forms.proofs.quotes.put.Given as goal

abbrev pub invariant-loop-i : goal.invariant-loop-i
invariant-loop-i l =
    (length l.core ≡ length l.initial.core) × (l.i ≤ length l.words) × (l.core ≡ paste l.initial.core l.at l.words l.i)
