use Rattle.std.proofs.Common.{◌∙◌}
use Rattle.grebetallboy.proofs.grebetallboy_read.Goals as goal
use Rattle.grebetallboy.specs.CallLaws.{told-numbers, read_told}
use Rattle.reader.specs.Served.{numbers_of}
use Rattle.grebetallboy.specs.Calls.{tells_read}

pub returns-in-Ok : goal.returns-in-Ok
unfolding numbers_of tells_read
returns-in-Ok c = read_told c.args.counts.now c.read.ensures c.in-Ok.is (c.tell.ensures ∙ told-numbers _ _ _ _)

pub returns-in-Err : goal.returns-in-Err
unfolding numbers_of tells_read
returns-in-Err c = rw c.number.ensures (read_told c.args.counts.now c.read.ensures c.in-Err.is (c.tell-in-Err.ensures ∙ told-numbers _ _ _ _))
