use Rattle.std.proofs.Common.{◌∙◌}
use Rattle.lexer.specs.ToldLaws.{end-taken, skipped-told}
use Rattle.lexer.proofs.token.token_at.Goals as goal

pub returns-then-at-text : goal.returns-then-at-text
returns-then-at-text c = c.skip-at.ensures.same ∙ end-taken c.args.text.now c.skip-at.result c.if-at-text.true

pub returns : goal.returns
returns c = skipped-told c.args.text.now c.args.from c.skip-at.result c.skip-at.ensures _ c.lexeme_at.ensures
