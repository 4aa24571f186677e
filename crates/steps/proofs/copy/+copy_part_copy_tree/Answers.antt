use Rattle.arena.specs.ListLaws.{pair-falls}
use Rattle.arena.specs.Arena.{tree_at}
use Rattle.steps.specs.BuildLaws.{unpaid-none, waiting-tail, waiting-head, copied-tail-costly, copied-head-costly, copied-room, copied-pair}
use native.Mathlib.Omega.{arith}
use mathlib.Core.Path.{sym, ◌∙◌}
use Rattle.steps.proofs.copy.+copy_part_copy_tree.Goals as goal

pub copy_part-copy_tree-requires : goal.copy_part-copy_tree-requires
copy_part-copy_tree-requires t c =
    (omega (arith, c.decreases), c.requires)

pub copy_part-returns-then-word-eq-PAIR : goal.copy_part-returns-then-word-eq-PAIR
copy_part-returns-then-word-eq-PAIR t c =
    c.copy_tree.ensures

pub copy_part-copy_leaf-requires : goal.copy_part-copy_leaf-requires
copy_part-copy_leaf-requires t c =
    (c.requires, λ z. c.if-word-eq-PAIR.false (c.word.ensures ∙ z))

pub copy_part-returns : goal.copy_part-returns
copy_part-returns t c =
    c.copy_leaf.ensures

pub copy_tree-copy_leaf-requires : goal.copy_tree-copy_leaf-requires
copy_tree-copy_leaf-requires t c =
    (c.requires, λ z. c.if-word-ne-PAIR.true (c.word.ensures ∙ z))

pub copy_tree-returns-then-word-ne-PAIR : goal.copy_tree-returns-then-word-ne-PAIR
copy_tree-returns-then-word-ne-PAIR t c =
    c.copy_leaf.ensures

pub copy_tree-returns-in_err-spare : goal.copy_tree-returns-in_err-spare
copy_tree-returns-in_err-spare t c =
    let a = c.args in
    rw c.from_residual.ensures (unpaid-none (tree_at a.work.now a.node a.w) a.work.now a.top a.fuel (omega (arith, c.in_err-spare.ensures)))

pub copy_tree-copy_part-requires : goal.copy_tree-copy_part-requires
copy_tree-copy_part-requires t c =
    let a = c.args in (
      omega (arith, c.decreases, c.reference-rest.ensures, pair-falls a.work.now a.node 1 (sym c.word.ensures ∙ c.if-word-ne-PAIR.false)),
      waiting-tail a.work.now a.top a.fuel a.node a.w _ (omega (arith, c.in_ok-spare.ensures.0)) c.in_ok-spare.ensures.1 _ c.word.ensures _ _ c.if-word-ne-PAIR.false c.reference-first.ensures c.reference-rest.ensures c.requires,
    )

pub copy_tree-returns-in_err-tail : goal.copy_tree-returns-in_err-tail
copy_tree-returns-in_err-tail t c =
    let a = c.args in
    rw c.from_residual-in_err-tail.ensures (copied-tail-costly a.work.now a.top a.fuel a.node a.w _ (omega (arith, c.in_ok-spare.ensures.0)) c.in_ok-spare.ensures.1 _ c.word.ensures _ _ c.if-word-ne-PAIR.false c.reference-first.ensures c.reference-rest.ensures c.requires _ c.in_err-tail.ensures)

pub copy_tree-copy_part-requires-2 : goal.copy_tree-copy_part-requires-2
copy_tree-copy_part-requires-2 t c =
    let a = c.args in
    let b = c.in_ok-tail.ensures in (
      omega (arith, c.decreases, c.reference-first.ensures, pair-falls a.work.now a.node 2 (sym c.word.ensures ∙ c.if-word-ne-PAIR.false)),
      waiting-head a.work.now a.top a.fuel a.node a.w _ (omega (arith, c.in_ok-spare.ensures.0)) c.in_ok-spare.ensures.1 _ c.word.ensures _ _ c.if-word-ne-PAIR.false c.reference-first.ensures c.reference-rest.ensures c.requires _ _ _ b c.copy_part.auto.work,
    )

pub copy_tree-returns-in_err-head : goal.copy_tree-returns-in_err-head
copy_tree-returns-in_err-head t c =
    let a = c.args in
    let b = c.in_ok-tail.ensures in
    rw c.from_residual-in_err-head.ensures (copied-head-costly a.work.now a.top a.fuel a.node a.w _ (omega (arith, c.in_ok-spare.ensures.0)) c.in_ok-spare.ensures.1 _ c.word.ensures _ _ c.if-word-ne-PAIR.false c.reference-first.ensures c.reference-rest.ensures c.requires _ _ _ b c.copy_part.auto.work _ c.in_err-head.ensures)

pub copy_tree-put_pair-requires : goal.copy_tree-put_pair-requires
copy_tree-put_pair-requires t c =
    let a = c.args in
    let b = c.in_ok-tail.ensures in
    let h = c.in_ok-head.ensures in (
      copied-room a.work.now a.top a.fuel a.node a.w _ (omega (arith, c.in_ok-spare.ensures.0)) c.in_ok-spare.ensures.1 _ c.word.ensures _ _ c.if-word-ne-PAIR.false c.reference-first.ensures c.reference-rest.ensures c.requires _ _ _ b c.copy_part.auto.work _ _ _ h c.copy_part-2.auto.work,
      omega arith,
      h.above,
    )

pub copy_tree-returns : goal.copy_tree-returns
copy_tree-returns t c =
    let a = c.args in
    let b = c.in_ok-tail.ensures in
    let h = c.in_ok-head.ensures in
    copied-pair a.work.now a.top a.fuel a.node a.w _ (omega (arith, c.in_ok-spare.ensures.0)) c.in_ok-spare.ensures.1 _ c.word.ensures _ _ c.if-word-ne-PAIR.false c.reference-first.ensures c.reference-rest.ensures c.requires _ _ _ b c.copy_part.auto.work _ _ _ h _ _ c.put_pair.ensures
