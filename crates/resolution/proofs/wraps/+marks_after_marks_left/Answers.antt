-- The proof of the cycle {marks_after, marks_left}: what is left is inside the wrap that is walked.
use Rattle.std.proofs.Common.{◌≡◌, arith}
use Rattle.recipe.specs.Name.{Name}
use Rattle.arena.specs.Arena.{wrap_at}
use Rattle.resolution.specs.HandLaws.{answer-then, after_none, wrap-none, wrap-idle, wrap-falls, marks-mark, marks-join, marks-binder}
use Rattle.resolution.proofs.wraps.+marks_after_marks_left.Goals as goal
use Rattle.resolution.proofs.wraps.+marks_after_marks_left.Goals.{marks_after-then-tag-eq0-via-then-tag-eq0, marks_after-then-tag-eq0-via-else-tag-eq0+then-tag-gt-BINDER}

pub marks_after-returns-then-tag-eq0 : goal.marks_after-returns-then-tag-eq0
marks_after-returns-then-tag-eq0 t c =
    let a = c.args in
    let idle : (x : Name) → wrap_at a.work.now a.w x ≡ x = elim c.then-tag-eq0.branch [
      | marks_after-then-tag-eq0-via-then-tag-eq0 w ↦ wrap-idle a.work.now a.w _ c.word-tag.ensures (λ z. omega arith) (λ z. omega arith) (λ z. omega arith)
      | marks_after-then-tag-eq0-via-else-tag-eq0+then-tag-gt-BINDER w ↦ wrap-idle a.work.now a.w _ c.word-tag.ensures (λ z. omega arith) (λ z. omega arith) (λ z. omega arith)
    ] in
    after_none a.table.now a.start a.count _ c.requires idle

pub marks_after-marks_left-requires : goal.marks_after-marks_left-requires
marks_after-marks_left-requires t c =
    let a = c.args in
    (omega (arith, wrap-falls a.work.now a.w _ c.word-tag.ensures 2 _ c.if-tag-eq0.false c.reference-inner.ensures), c.requires)

pub marks_after-returns-then-tag-eq-MARK : goal.marks_after-returns-then-tag-eq-MARK
marks_after-returns-then-tag-eq-MARK t c =
    let a = c.args in
    answer-then _ c.mark.result c.mark.ensures
    (λ r p. marks-mark a.work.now a.w _ c.word-tag.ensures _ c.reference-inner.ensures a.table.now _ a.start a.count _ c.in_ok-n.ensures _ c.if-tag-eq-MARK.true c.word-m.ensures _ r p)

pub marks_after-marks_left-requires-then-tag-eq-JOIN : goal.marks_after-marks_left-requires-then-tag-eq-JOIN
marks_after-marks_left-requires-then-tag-eq-JOIN t c =
    let a = c.args in
    (omega (arith, wrap-falls a.work.now a.w _ c.word-tag.ensures 3 _ c.if-tag-eq0.false c.reference-outer.ensures), c.in_ok-n.ensures.hand)

pub marks_after-returns-then-tag-eq-JOIN : goal.marks_after-returns-then-tag-eq-JOIN
marks_after-returns-then-tag-eq-JOIN t c =
    let a = c.args in
    answer-then _ c.marks_left-then-tag-eq-JOIN.result c.marks_left-then-tag-eq-JOIN.ensures
    (λ r p. marks-join a.work.now a.w _ c.word-tag.ensures _ c.reference-inner.ensures a.table.now _ a.start a.count _ c.in_ok-n.ensures _ c.if-tag-eq-JOIN.true c.reference-outer.ensures _ r p)

pub marks_after-returns : goal.marks_after-returns
marks_after-returns t c =
    let a = c.args in
    marks-binder a.work.now a.w _ c.word-tag.ensures _ c.reference-inner.ensures a.table.now _ a.start a.count _ c.in_ok-n.ensures (omega arith)

pub marks_left-returns-then-w-eq0 : goal.marks_left-returns-then-w-eq0
marks_left-returns-then-w-eq0 t c =
    let a = c.args in
    after_none a.table.now a.start a.count _ c.requires (wrap-none a.work.now a.w c.if-w-eq0.true)
