-- The flags from `from` up to k are set; the others are as they were.
use Rattle.std.proofs.Common.{◌≡◌, ◌-◌, ◌≤◌, length}
use Rattle.core_term.specs.Code.Window.{marked}
use Rattle.core_term.proofs.flags.mark.Given as goal

abbrev pub invariant-loop-k : goal.invariant-loop-k
invariant-loop-k l = (length l.flags ≡ length l.fn.flags) × (l.k - l.from ≤ l.to - l.from) × (l.flags ≡ marked l.base l.from (l.k - l.from) l.value l.fn.flags)
