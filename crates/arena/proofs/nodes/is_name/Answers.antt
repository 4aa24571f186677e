-- `nodes::is_name`, by the node's kind.
use Rattle.arena.specs.ListLaws.{name-test}
use Rattle.arena.proofs.nodes.is_name.Goals as goal

pub returns : goal.returns
returns c =
    let a = c.args in
    name-test a.work.now a.node _ c.word.ensures
