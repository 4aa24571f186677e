-- What is laid so far, with the digits of what is left laid behind it, is the whole.
use Rattle.std.proofs.Common.{◌≡◌, suc, ◌+◌, ◌-◌, ◌^◌, ◌<◌, true, length}
use Rattle.core_term.specs.Decimal.{padded}
use Rattle.writer.specs.Laid.{laid}
use Rattle.writer.proofs.numbers.lay.Given as goal

abbrev pub invariant-loop-i : goal.invariant-loop-i
invariant-loop-i l =
    (length l.out ≡ length l.fn.out) × (l.left < 10 ^ suc (l.k - l.i)) × (laid true (padded (l.k - l.i) l.left) (l.at + l.i) l.out ≡ laid true (padded l.k l.n) l.at l.fn.out)
