-- `lists::rest`: a pair's tail.
use Rattle.arena.specs.ListLaws.{rest-none, rest_some}
use Rattle.arena.proofs.lists.rest.Goals as goal

pub returns-then-word-ne-PAIR : goal.returns-then-word-ne-PAIR
returns-then-word-ne-PAIR c =
    let a = c.args in rest-none a.work.now a.node _ c.word.ensures c.if-word-ne-PAIR.true

pub returns : goal.returns
returns c =
    let a = c.args in rest_some a.work.now a.node _ c.word.ensures c.if-word-ne-PAIR.false _ c.reference.ensures
