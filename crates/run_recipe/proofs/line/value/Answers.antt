-- Any output has room.
use Rattle.std.proofs.Common.{rules}
use Rattle.run_recipe.proofs.line.value.Goals as goal
use Rattle.writer.specs.LaidLaws.{left_is}
use Rattle.run_output.proofs.LaidLaws.{acceptance-room}
use Rattle.run_recipe.specs.Line.{value_of, closure-laid, operation-laid, word_fits}

pub returns-in-Integer : goal.returns-in-Integer
unfolding value_of
returns-in-Integer c = rw c.in-Integer.is
    (record { left = c.integer_value.ensures; room = acceptance-room _ _ (word_fits c.in-Integer.w (search rules)) (search rules) })

pub returns-in-Boolean : goal.returns-in-Boolean
unfolding value_of
returns-in-Boolean c = rw c.in-Boolean.is (record { left = c.boolean_value.ensures; room = acceptance-room _ _ tt (search rules) })

pub returns-in-Datum : goal.returns-in-Datum
unfolding value_of
returns-in-Datum c = rw c.in-Datum.is (record { left = c.datum_value.ensures; room = acceptance-room _ _ (search rules) (search rules) })

pub returns-in-Closure : goal.returns-in-Closure
unfolding value_of
returns-in-Closure c = rw c.in-Closure.is (record { left = left_is (closure-laid _) c.named.ensures; room = acceptance-room _ _ tt (search rules) })

pub returns-in-Operation : goal.returns-in-Operation
unfolding value_of
returns-in-Operation c =
    rw c.in-Operation.is (record { left = left_is (operation-laid _) c.named-in-Operation.ensures; room = acceptance-room _ _ tt (search rules) })
