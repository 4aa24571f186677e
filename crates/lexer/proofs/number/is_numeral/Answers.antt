use mathlib.Core.Path.{◌∙◌}
use Rattle.lexer.specs.NumberLaws.{numeral-none, numeral-plain, numeral-one, numeral-minus}
use Rattle.lexer.proofs.number.is_numeral.Goals as goal

pub returns-then-word-eq0 : goal.returns-then-word-eq0
returns-then-word-eq0 c = let args = c.args in
    numeral-none args.word.now c.if-word-eq0.true

pub returns-then-word-ne45 : goal.returns-then-word-ne45
returns-then-word-ne45 c = let args = c.args in
    c.is_digit.ensures ∙ numeral-plain args.word.now c.if-word-ne45.true

pub returns-then-word-eq1 : goal.returns-then-word-eq1
returns-then-word-eq1 c = let args = c.args in
    numeral-one args.word.now c.if-word-eq1.true c.if-word-ne45.false

pub returns : goal.returns
returns c = let args = c.args in
    c.is_digit-2.ensures ∙ numeral-minus args.word.now c.if-word-ne45.false
