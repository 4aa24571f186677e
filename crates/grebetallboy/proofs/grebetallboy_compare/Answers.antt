use Rattle.std.proofs.Common.{◌∙◌}
use Rattle.grebetallboy.proofs.grebetallboy_compare.Goals as goal
use Rattle.grebetallboy.specs.CallLaws.{told-numbers, compare-told, same-told}
use Rattle.grebetallboy.specs.Calls.{tells_verdict, verdict_ground}
use Rattle.supplier.specs.Service.{verdict_of}

pub returns-in-Ok : goal.returns-in-Ok
returns-in-Ok c = same-told c.args.counts.now c.compare.ensures c.in-Ok.same c.in-Ok.is _ c.from.ensures (c.tell.ensures ∙ told-numbers _ _ _ _)

pub returns-in-Err : goal.returns-in-Err
unfolding verdict_of tells_verdict verdict_ground
returns-in-Err c = rw c.number.ensures (compare-told c.args.counts.now c.compare.ensures c.in-Err.is (c.tell-in-Err.ensures ∙ told-numbers _ _ _ _))
