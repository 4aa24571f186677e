use Rattle.writer.specs.LaidLaws.{left-room, left-stops, left-then}
use Rattle.writer.proofs.numbers.dotted.Goals as goal

pub returns-in_err-a : goal.returns-in_err-a
returns-in_err-a c = left-stops c.copy.ensures _ c.in_err-a.was c.from_residual.ensures

pub byte-requires : goal.byte-requires
byte-requires c = left-room c.copy.ensures _ c.in_ok-a.was

pub returns-in_err-b : goal.returns-in_err-b
returns-in_err-b c = left-then c.copy.ensures _ c.in_ok-a.was (left-stops c.byte.ensures _ c.in_err-b.was c.from_residual-in_err-b.ensures)

pub copy-requires-2 : goal.copy-requires-2
copy-requires-2 c = left-room c.byte.ensures _ c.in_ok-b.was

pub returns : goal.returns
returns c = left-then c.copy.ensures _ c.in_ok-a.was (left-then c.byte.ensures _ c.in_ok-b.was c.copy-2.ensures)
