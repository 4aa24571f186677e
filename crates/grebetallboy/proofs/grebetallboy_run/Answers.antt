use Rattle.grebetallboy.specs.CallLaws.{ran-told}
use Rattle.grebetallboy.proofs.grebetallboy_run.Goals as goal

-- src/lib.rt:194:1
pub returns : goal.returns
returns c = ran-told _ c.run.ensures c.tell_running.ensures
