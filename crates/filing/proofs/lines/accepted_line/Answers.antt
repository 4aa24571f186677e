-- One piece after another.
use Rattle.filing.proofs.lines.accepted_line.Goals as goal
use Rattle.writer.specs.LaidLaws.{left-room, left-stops, left-then, left_is}
use Rattle.filing.specs.Lines.{header-laid}

pub returns-in_err-a : goal.returns-in_err-a
returns-in_err-a c = left_is (header-laid _ _) (left-stops c.copy.ensures _ c.in_err-a.was c.from_residual.ensures)

pub counts-requires : goal.counts-requires
counts-requires c = left-room c.copy.ensures _ c.in_ok-a.was

pub returns : goal.returns
returns c = left_is (header-laid _ _) (left-then c.copy.ensures _ c.in_ok-a.was c.counts.ensures)
