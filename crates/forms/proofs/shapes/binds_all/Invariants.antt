-- `shapes::binds_all`: all of the list bind where all that are left do.
use Rattle.forms.specs.ShapeLaws.{AllLeft}
use Rattle.forms.proofs.shapes.binds_all.Given as goal

abbrev pub invariant-loop-bound : goal.invariant-loop-bound
invariant-loop-bound l =
    AllLeft l.work l.bound l.list l.most l.node l.left

abbrev pub decreases-loop-bound : goal.decreases-loop-bound
decreases-loop-bound l = l.left
