-- `binders::bind_names`: names are bound up to the node's.
use Rattle.forms.specs.Binders.{Scoping}
use Rattle.forms.proofs.binders.bind_names.Given as goal

abbrev pub invariant-loop-bound : goal.invariant-loop-bound
invariant-loop-bound l =
    Scoping l.initial.work l.list l.wrap l.bound l.number l.parent l.top l.work l.at l.n l.scope l.end

abbrev pub decreases-loop-bound : goal.decreases-loop-bound
decreases-loop-bound l = l.at
