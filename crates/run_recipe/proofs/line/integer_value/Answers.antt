-- The units, then the integer and LF.
use Rattle.run_recipe.proofs.line.integer_value.Goals as goal
use Rattle.writer.specs.LaidLaws.{left-room, left-then, left-stops, left_is}
use Rattle.run_recipe.specs.Line.{integer-laid}

pub returns-in_err-a : goal.returns-in_err-a
returns-in_err-a c = left_is (integer-laid c.args.w _) (left-stops c.accepted.ensures _ c.in_err-a.was c.from_residual.ensures)

pub integer-requires : goal.integer-requires
integer-requires c = left-room c.accepted.ensures _ c.in_ok-a.was

pub returns-in_err-b : goal.returns-in_err-b
returns-in_err-b c =
    left_is (integer-laid c.args.w _) (left-then c.accepted.ensures _ c.in_ok-a.was (left-stops c.integer.ensures _ c.in_err-b.was c.from_residual-in_err-b.ensures))

pub byte-requires : goal.byte-requires
byte-requires c = left-room c.integer.ensures _ c.in_ok-b.was

pub returns : goal.returns
returns c =
    left_is (integer-laid c.args.w _) (left-then c.accepted.ensures _ c.in_ok-a.was (left-then c.integer.ensures _ c.in_ok-b.was c.byte.ensures))
