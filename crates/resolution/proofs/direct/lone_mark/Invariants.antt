-- `direct::lone_mark`: the mark so far stands around what is left.
use Rattle.resolution.specs.DirectLaws.{Around}
use Rattle.resolution.proofs.direct.lone_mark.Given as goal

abbrev pub invariant-loop-at : goal.invariant-loop-at
invariant-loop-at l = Around l.work l.number l.w l.at l.mark

abbrev pub decreases-loop-at : goal.decreases-loop-at
decreases-loop-at l = l.at
