-- One piece after another.
use Rattle.filing.proofs.lines.counts.Goals as goal
use Rattle.writer.specs.LaidLaws.{left-room, left-stops, left-then, left_is}
use Rattle.filing.specs.Lines.{counts-laid}

pub returns-in_err-a : goal.returns-in_err-a
returns-in_err-a c = left_is (counts-laid _ _) (left-stops c.number.ensures _ c.in_err-a.was c.from_residual.ensures)

pub number-requires-2 : goal.number-requires-2
number-requires-2 c = left-room c.number.ensures _ c.in_ok-a.was

pub returns-in_err-b : goal.returns-in_err-b
returns-in_err-b c = left_is (counts-laid _ _) (left-then c.number.ensures _ c.in_ok-a.was (left-stops c.number-2.ensures _ c.in_err-b.was c.from_residual-in_err-b.ensures))

pub byte-requires : goal.byte-requires
byte-requires c = left-room c.number-2.ensures _ c.in_ok-b.was

pub returns : goal.returns
returns c = left_is (counts-laid _ _) (left-then c.number.ensures _ c.in_ok-a.was (left-then c.number-2.ensures _ c.in_ok-b.was c.byte.ensures))
