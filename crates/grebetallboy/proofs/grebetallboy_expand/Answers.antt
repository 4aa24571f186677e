use Rattle.std.proofs.Common.{◌∙◌}
use Rattle.grebetallboy.proofs.grebetallboy_expand.Goals as goal
use Rattle.grebetallboy.specs.CallLaws.{told-numbers, expand-told}
use Rattle.grebetallboy.specs.Calls.{tells_run}
use Rattle.expander.specs.Service.{numbers_of}

pub returns-in-Ok : goal.returns-in-Ok
unfolding numbers_of tells_run
returns-in-Ok c = expand-told c.args.counts.now c.expand.ensures c.in-Ok.is (c.tell.ensures ∙ told-numbers _ _ _ _)

pub returns-in-Err : goal.returns-in-Err
unfolding numbers_of tells_run
returns-in-Err c = rw c.number.ensures (expand-told c.args.counts.now c.expand.ensures c.in-Err.is (c.tell-in-Err.ensures ∙ told-numbers _ _ _ _))
