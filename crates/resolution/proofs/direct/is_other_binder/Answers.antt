-- `direct::is_other_binder`: the tag, then the number.
use borrow.Author.Tests.{not-true, eqb-false}
use Rattle.resolution.specs.DirectLaws.{binder-skips}
use Rattle.resolution.proofs.direct.is_other_binder.Goals as goal

pub returns-then-word-eq-BINDER : goal.returns-then-word-eq-BINDER
returns-then-word-eq-BINDER c =
    let a = c.args in
    λ z. binder-skips a.work.now a.at _ c.word.ensures c.if-word-eq-BINDER.true a.number _ c.word-then-word-eq-BINDER.ensures (eqb-false _ _ (not-true _ z))
