-- `lists::first`: a pair's head.
use Rattle.arena.specs.ListLaws.{first-none, first_some}
use Rattle.arena.proofs.lists.first.Goals as goal

pub returns-then-word-ne-PAIR : goal.returns-then-word-ne-PAIR
returns-then-word-ne-PAIR c =
    let a = c.args in first-none a.work.now a.node _ c.word.ensures c.if-word-ne-PAIR.true

pub returns : goal.returns
returns c =
    let a = c.args in first_some a.work.now a.node _ c.word.ensures c.if-word-ne-PAIR.false _ c.reference.ensures
