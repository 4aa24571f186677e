-- `names::is_ordinary`, by the node's kind and its number.
use borrow.Author.Tests.{eq-eqb}
use Rattle.arena.specs.ListLaws.{ordinary-other, ordinary-ellipsis, ordinary-last}
use Rattle.resolution.proofs.names.is_ordinary.Goals as goal

pub returns-then-word-ne-NAME : goal.returns-then-word-ne-NAME
returns-then-word-ne-NAME c =
    let a = c.args in
    ordinary-other a.work.now a.node _ c.word.ensures c.if-word-ne-NAME.true

pub returns-then-number-ne-ELLIPSIS : goal.returns-then-number-ne-ELLIPSIS
returns-then-number-ne-ELLIPSIS c =
    let a = c.args in
    ordinary-last a.work.now a.node _ c.word.ensures _ c.number_of-number.ensures c.if-word-ne-NAME.false c.if-number-ne-ELLIPSIS.true

pub returns-else-number-ne-ELLIPSIS : goal.returns-else-number-ne-ELLIPSIS
returns-else-number-ne-ELLIPSIS c =
    let a = c.args in
    λ w. rw (eq-eqb _ 6 c.if-number-ne-ELLIPSIS.false)
    (ordinary-ellipsis a.work.now a.node _ c.word.ensures _ c.number_of-number.ensures c.if-word-ne-NAME.false c.if-number-ne-ELLIPSIS.false w)
