use Rattle.std.proofs.Common.{◌∙◌}
use Rattle.grebetallboy.proofs.grebetallboy_write.Goals as goal
use Rattle.grebetallboy.specs.CallLaws.{told-numbers, write-told}
use Rattle.writer.specs.Writing.{ground_of, length_of}

pub returns-in-Ok : goal.returns-in-Ok
unfolding ground_of length_of
returns-in-Ok c = write-told c.args.counts.now c.write.ensures c.in-Ok.is (c.tell.ensures ∙ told-numbers _ _ _ _)

pub returns-in-Err : goal.returns-in-Err
unfolding ground_of length_of
returns-in-Err c = rw c.number.ensures (write-told c.args.counts.now c.write.ensures c.in-Err.is (c.tell-in-Err.ensures ∙ told-numbers _ _ _ _))
