-- `direct::is_passed`: a mark, or a binder of another number.
use Rattle.resolution.specs.DirectLaws.{mark-passes}
use Rattle.resolution.proofs.direct.is_passed.Goals as goal

pub returns-then-word-eq-MARK : goal.returns-then-word-eq-MARK
returns-then-word-eq-MARK c =
    let a = c.args in
    λ z. mark-passes a.work.now a.at _ c.word.ensures c.if-word-eq-MARK.true a.number
