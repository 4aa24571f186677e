-- `ones` answers the test of all counts: no bit is set so far where each count passed is 1.
use Rattle.std.proofs.Common.{◌≡◌, ◌≤◌, ◌<◌}
use Rattle.std.proofs.Math.Dec.{eqb}
use Rattle.layout.specs.Counts.{are_ones}
use Rattle.layout.proofs.reference.ones.Given as goal

abbrev pub invariant-loop-i : goal.invariant-loop-i
invariant-loop-i l =
    (0 < l.i) × (l.i ≤ l.n) × (eqb l.wrong 0 ≡ are_ones l.counts l.i)
