-- The units, then the place.
use Rattle.run_recipe.proofs.line.datum_value.Goals as goal
use Rattle.writer.specs.LaidLaws.{left-room, left-then, left-stops, left_is}
use Rattle.run_recipe.specs.Line.{place-laid}

pub returns-in_err-a : goal.returns-in_err-a
returns-in_err-a c = left_is (place-laid _ _) (left-stops c.accepted.ensures _ c.in_err-a.was c.from_residual.ensures)

pub counted-requires : goal.counted-requires
counted-requires c = left-room c.accepted.ensures _ c.in_ok-a.was

pub returns : goal.returns
returns c = left_is (place-laid _ _) (left-then c.accepted.ensures _ c.in_ok-a.was c.counted.ensures)
