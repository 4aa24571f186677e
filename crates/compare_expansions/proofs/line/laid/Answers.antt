-- Each line, by its pieces.
use Rattle.std.proofs.Common.{rules}
use Rattle.compare_expansions.proofs.line.laid.Goals as goal
use Rattle.writer.specs.LaidLaws.{left_is}
use Rattle.compare_expansions.specs.Line.{yes-line, no-line, recipe-line, text-line}

pub returns-in-Ok-true : goal.returns-in-Ok-true
returns-in-Ok-true c = left_is (yes-line _ _ c.in-Ok-true.is c.in-Ok-true.field-0-test) c.copy.ensures

pub returns-in-Ok-false : goal.returns-in-Ok-false
returns-in-Ok-false c = left_is (no-line _ _ c.in-Ok-false.is c.in-Ok-false.field-0-test) c.copy-in-Ok-false.ensures

pub returns-in-Err-Recipe : goal.returns-in-Err-Recipe
returns-in-Err-Recipe c = left_is (recipe-line _ _ c.in-Err-Recipe.ground c.in-Err-Recipe.is (search rules)) c.refused.ensures

pub returns-in-Err-Text : goal.returns-in-Err-Text
returns-in-Err-Text c = left_is (text-line _ _ c.in-Err-Text.ground c.in-Err-Text.is (search rules)) c.refused-in-Err-Text.ensures
