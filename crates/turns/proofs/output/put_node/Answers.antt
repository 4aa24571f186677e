-- `output::put_node`.
use Rattle.turns.specs.MemoryLaws.{moved_by}
use Rattle.turns.proofs.output.put_node.Goals as goal

pub returns : goal.returns
returns c = let a = c.args in moved_by _ a.reached _ a.core.now _ _ c.moved.ensures c.put-at.ensures
