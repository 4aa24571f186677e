-- `direct::mark_at`: the tag, then the step.
use Rattle.std.proofs.Common.{arith}
use Rattle.resolution.specs.DirectLaws.{mark-cell}
use Rattle.resolution.proofs.direct.mark_at.Goals as goal

pub returns : goal.returns
returns c =
    let a = c.args in
    mark-cell a.work.now a.at _ c.word.ensures c.if-word-ne-MARK.false _ c.word-step.ensures c.if-step-eq0.false (omega (arith, c.if-step-ge-STEP_LIMIT.false))
