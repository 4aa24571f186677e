-- `lists::element`: the first of what is left after i elements.
use Rattle.arena.specs.ListLaws.{skip_first}
use Rattle.arena.proofs.lists.element.Goals as goal

pub returns : goal.returns
returns c =
    let a = c.args in skip_first a.work.now a.list a.i _ _ c.skip-node.ensures c.first.ensures
