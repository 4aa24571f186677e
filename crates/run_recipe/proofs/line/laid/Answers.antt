-- By the answer.
use Rattle.std.proofs.Common.{rules}
use Rattle.run_recipe.proofs.line.laid.Goals as goal
use Rattle.writer.specs.LaidLaws.{left_is}
use Rattle.run_output.proofs.LaidLaws.{refusal-room}
use Rattle.run_recipe.specs.Line.{line_of, refusal-laid}

pub returns-in-Ok : goal.returns-in-Ok
unfolding line_of
returns-in-Ok c = rw c.in-Ok.is c.value.ensures

pub returns-in-Err : goal.returns-in-Err
unfolding line_of
returns-in-Err c = rw (c.in-Err.is, ← c.number.ensures) (record { left = left_is (refusal-laid _) c.counted.ensures; room = refusal-room _ (search rules) })
