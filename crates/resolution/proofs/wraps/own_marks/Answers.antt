-- `wraps::own_marks`: the own wrap, then the pending one, on a name with no marks.
use Rattle.resolution.specs.HandLaws.{answer-then, hand-none}
use Rattle.resolution.specs.BinderLaws.{own-both}
use Rattle.resolution.proofs.wraps.own_marks.Goals as goal

pub marks_after-requires : goal.marks_after-requires
marks_after-requires c =
    let a = c.args in
    hand-none a.table.now a.start c.requires

pub returns : goal.returns
returns c =
    let a = c.args in
    answer-then _ c.marks_after-2.result c.marks_after-2.ensures
    (λ r p. own-both a.work.now a.w _ _ c.reference-own.ensures c.reference-pending.ensures a.table.now _ _ a.start _ r c.in_ok-n.ensures p)
