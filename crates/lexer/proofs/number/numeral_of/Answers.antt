use mathlib.Core.Path.{◌∙◌}
use Rattle.lexer.specs.NumberLaws.{plain-numeral, minus-numeral}
use Rattle.lexer.proofs.number.numeral_of.Goals as goal

pub returns-then-word-eq45 : goal.returns-then-word-eq45
returns-then-word-eq45 c = let args = c.args in
    c.unsigned_of.ensures ∙ minus-numeral args.word.now c.if-word-eq45.true

pub returns : goal.returns
returns c = let args = c.args in
    c.unsigned_of-2.ensures ∙ plain-numeral args.word.now c.if-word-eq45.false
