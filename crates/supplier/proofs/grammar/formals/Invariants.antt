use Prim.Native.Nat.{◌-◌}
use lib.ListN.{length}
use Rattle.supplier.specs.FormalsLaws.{Taking}
use Rattle.supplier.proofs.grammar.formals.Given as goal

abbrev pub invariant-loop-i : goal.invariant-loop-i
invariant-loop-i l = Taking l.items l.i l.fn.scope l.top l.first l.scope l.j l.n

abbrev pub decreases-loop-i : goal.decreases-loop-i
decreases-loop-i l = length l.items - l.j
