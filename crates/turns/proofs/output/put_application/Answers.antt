-- `output::put_application`.
use Rattle.turns.specs.MemoryLaws.{header-moved}
use Rattle.turns.proofs.output.put_application.Goals as goal

pub returns : goal.returns
returns c = let a = c.args in
    header-moved a.list a.code a.number _ _ a.reached _ a.work.now a.core.now _ c.count-count.ensures.is c.moved.ensures c.put-at.ensures
