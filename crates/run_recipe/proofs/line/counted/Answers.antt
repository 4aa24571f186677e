-- One piece after another.
use Rattle.run_recipe.proofs.line.counted.Goals as goal
use Rattle.writer.specs.LaidLaws.{left-room, left-then, left-stops}

pub returns-in_err-a : goal.returns-in_err-a
returns-in_err-a c = left-stops c.copy.ensures _ c.in_err-a.was c.from_residual.ensures

pub numbered-requires : goal.numbered-requires
numbered-requires c = left-room c.copy.ensures _ c.in_ok-a.was

pub returns-in_err-b : goal.returns-in_err-b
returns-in_err-b c = left-then c.copy.ensures _ c.in_ok-a.was (left-stops c.numbered.ensures _ c.in_err-b.was c.from_residual-in_err-b.ensures)

pub byte-requires : goal.byte-requires
byte-requires c = left-room c.numbered.ensures _ c.in_ok-b.was

pub returns : goal.returns
returns c = left-then c.copy.ensures _ c.in_ok-a.was (left-then c.numbered.ensures _ c.in_ok-b.was c.byte.ensures)
