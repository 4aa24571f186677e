-- The proof of the cycle {walk, walked}: what is left is inside the wrap that is walked.
use Rattle.std.proofs.Common.{◌≡◌, arith}
use Rattle.recipe.specs.Name.{Name}
use Rattle.arena.specs.Arena.{wrap_at}
use Rattle.resolution.specs.HandLaws.{answer-then, wrap-none, wrap-idle, wrap-falls}
use Rattle.resolution.specs.WalkLaws.{name-idle, walk-mark, walk-join, walk-binder}
use Rattle.resolution.proofs.wraps.+walk_walked.Goals as goal
use Rattle.resolution.proofs.wraps.+walk_walked.Goals.{walk-then-tag-eq0-via-then-tag-eq0, walk-then-tag-eq0-via-else-tag-eq0+then-tag-gt-BINDER}

pub walk-returns-then-tag-eq0 : goal.walk-returns-then-tag-eq0
walk-returns-then-tag-eq0 t c =
    let a = c.args in
    let idle : (x : Name) → wrap_at a.work.now a.w x ≡ x = elim c.then-tag-eq0.branch [
      | walk-then-tag-eq0-via-then-tag-eq0 w ↦ wrap-idle a.work.now a.w _ c.word-tag.ensures (λ z. omega arith) (λ z. omega arith) (λ z. omega arith)
      | walk-then-tag-eq0-via-else-tag-eq0+then-tag-gt-BINDER w ↦ wrap-idle a.work.now a.w _ c.word-tag.ensures (λ z. omega arith) (λ z. omega arith) (λ z. omega arith)
    ] in
    name-idle _ a.table.now a.start a.number a.held.count a.held.binding c.requires idle

pub walk-walked-requires : goal.walk-walked-requires
walk-walked-requires t c =
    let a = c.args in
    (omega (arith, wrap-falls a.work.now a.w _ c.word-tag.ensures 2 _ c.if-tag-eq0.false c.reference-inner.ensures), c.requires)

pub walk-returns-then-tag-eq-MARK : goal.walk-returns-then-tag-eq-MARK
walk-returns-then-tag-eq-MARK t c =
    let a = c.args in
    walk-mark a.work.now a.w _ c.word-tag.ensures _ c.reference-inner.ensures a.table.now _ a.start a.number a.held.count a.held.binding _ _ c.in_ok-s.ensures _ c.if-tag-eq-MARK.true c.word-m.ensures _ _ c.in_ok-count.ensures

pub walk-walked-requires-then-tag-eq-JOIN : goal.walk-walked-requires-then-tag-eq-JOIN
walk-walked-requires-then-tag-eq-JOIN t c =
    let a = c.args in
    (omega (arith, wrap-falls a.work.now a.w _ c.word-tag.ensures 3 _ c.if-tag-eq0.false c.reference-outer.ensures), c.in_ok-s.ensures.hand)

pub walk-returns-then-tag-eq-JOIN : goal.walk-returns-then-tag-eq-JOIN
walk-returns-then-tag-eq-JOIN t c =
    let a = c.args in
    answer-then _ c.walked-then-tag-eq-JOIN.result c.walked-then-tag-eq-JOIN.ensures
    (λ r p. walk-join a.work.now a.w _ c.word-tag.ensures _ c.reference-inner.ensures a.table.now _ a.start a.number a.held.count a.held.binding _ _ c.in_ok-s.ensures _ c.if-tag-eq-JOIN.true c.reference-outer.ensures _ _ _ p)

pub walk-returns : goal.walk-returns
walk-returns t c =
    let a = c.args in
    let binder : c.word-tag.result ≡ 3 = omega (arith, c.if-tag-eq0.false, c.if-tag-gt-BINDER.false, c.if-tag-eq-MARK.false, c.if-tag-eq-JOIN.false) in
    answer-then _ c.rebind.result c.rebind.ensures
    (λ r p. walk-binder a.work.now a.w _ c.word-tag.ensures _ c.reference-inner.ensures a.table.now _ a.start a.number a.held.count a.held.binding _ _ c.in_ok-s.ensures binder _ _ _ p)

pub walked-returns-then-w-eq0 : goal.walked-returns-then-w-eq0
walked-returns-then-w-eq0 t c =
    let a = c.args in
    name-idle _ a.table.now a.start a.number a.held.count a.held.binding c.requires (wrap-none a.work.now a.w c.if-w-eq0.true)
