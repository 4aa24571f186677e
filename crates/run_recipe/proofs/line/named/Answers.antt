-- The units, then the text.
use Rattle.run_recipe.proofs.line.named.Goals as goal
use Rattle.writer.specs.LaidLaws.{left-room, left-then, left-stops}

pub returns-in_err-a : goal.returns-in_err-a
returns-in_err-a c = left-stops c.accepted.ensures _ c.in_err-a.was c.from_residual.ensures

pub copy-requires : goal.copy-requires
copy-requires c = left-room c.accepted.ensures _ c.in_ok-a.was

pub returns : goal.returns
returns c = left-then c.accepted.ensures _ c.in_ok-a.was c.copy.ensures
