-- `binders::put_numbers`: the numbers before the node are put.
use Rattle.std.proofs.Common.{ℕ}
use Rattle.forms.specs.NumberLaws.{Putting}
use Rattle.forms.proofs.binders.put_numbers.Given as goal

abbrev pub invariant-loop-first : goal.invariant-loop-first
invariant-loop-first l = (v : ℕ) × Putting l.work l.list v l.at l.initial.core l.node l.n l.core

abbrev pub decreases-loop-first : goal.decreases-loop-first
decreases-loop-first l = l.node
