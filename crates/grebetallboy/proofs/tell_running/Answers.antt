-- A value's numbers, or the ground.
use Rattle.grebetallboy.specs.CallLaws.{value-accepted}
use Rattle.runner.specs.Service.{numbers_of}
use Rattle.grebetallboy.proofs.tell_running.Goals as goal

pub returns-in-Ok : goal.returns-in-Ok
unfolding numbers_of
returns-in-Ok c = rw c.in-Ok.is (value-accepted _ _, c.tell_value.ensures)

pub returns-in-Err : goal.returns-in-Err
unfolding numbers_of
returns-in-Err c = rw c.in-Err.is (c.number.ensures, c.tell.ensures)
