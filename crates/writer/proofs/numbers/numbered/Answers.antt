use Rattle.writer.specs.LaidLaws.{left-room, left-stops, left-then}
use Rattle.writer.proofs.numbers.numbered.Goals as goal

pub returns-in_err-to : goal.returns-in_err-to
returns-in_err-to c = left-stops c.byte.ensures _ c.in_err-to.was c.from_residual.ensures

pub digits-requires : goal.digits-requires
digits-requires c = left-room c.byte.ensures _ c.in_ok-to.was

pub returns : goal.returns
returns c = left-then c.byte.ensures _ c.in_ok-to.was c.digits.ensures
