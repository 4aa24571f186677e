-- `direct::binding_by`: the one mark inside the binder, and what the binder gives a name with it.
use Rattle.words.specs.ListLaws.{whole}
use Rattle.resolution.specs.Direct.{OnlyMark}
use Rattle.resolution.specs.DirectLaws.{finds-binder}
use Rattle.resolution.proofs.direct.binding_by.Goals as goal

pub returns : goal.returns
returns c =
    let a = c.args in
    finds-binder a.work.now a.number a.own a.at _ _ _ _ c.word.ensures c.if-word-ne-BINDER.false c.reference-inner.ensures (whole (λ s. OnlyMark s a.number a.own c.reference-inner.result c.in_ok-mark.mark) a.work.now c.in_ok-mark.ensures) c.given_key.ensures
