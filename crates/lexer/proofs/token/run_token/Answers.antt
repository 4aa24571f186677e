use Rattle.std.proofs.Common.{sym, ap, ◌∙◌}
use Rattle.std.proofs.lemmas.Result.{err_from_is_err_and}
use Rattle.reading.proofs.Laws.MeaningsLaws.{numeral-means, other-means, name-is, name-malformed}
use Rattle.lexer.specs.Answers.{numeral_meaning}
use Rattle.lexer.proofs.token.run_token.Goals as goal

pub returns-in_err-numeral_of : goal.returns-in_err-numeral_of
returns-in_err-numeral_of c =
    let p = err_from_is_err_and c.from_residual.result c.from_residual.ensures.1 in
    rw (p.1, p.2)
    (ap numeral_meaning (sym c.in_err-numeral_of.was) ∙ c.numeral_of.ensures ∙ sym (numeral-means c.args.word.now (sym c.is_numeral.ensures ∙ c.if-is_numeral.true)))

pub returns-then-is_numeral : goal.returns-then-is_numeral
returns-then-is_numeral c =
    ap numeral_meaning (sym c.in_ok-numeral_of.was) ∙ c.numeral_of.ensures ∙ sym (numeral-means c.args.word.now (sym c.is_numeral.ensures ∙ c.if-is_numeral.true))

pub returns-then-is_name : goal.returns-then-is_name
returns-then-is_name c =
    let w = c.args.word.now in
    sym (other-means w (sym c.is_numeral.ensures ∙ c.if-is_numeral.false) ∙ name-is w (sym c.is_name.ensures ∙ c.if-is_name.true))

pub returns : goal.returns
returns c =
    let w = c.args.word.now in
    sym (other-means w (sym c.is_numeral.ensures ∙ c.if-is_numeral.false) ∙ name-malformed w (sym c.is_name.ensures ∙ c.if-is_name.false))
