use Rattle.std.proofs.Common.{arith, refl}
use Rattle.lexer.specs.ToldLaws.{flag-stands, flag-alone}
use Rattle.lexer.proofs.token.flag_at.Goals as goal

pub returns-then-behind-text : goal.returns-then-behind-text
returns-then-behind-text c = (refl, flag-alone c.args.text.now c.args.at c.requires.0 c.requires.1 c.if-behind-text.true)

pub returns : goal.returns
returns c = (refl, rw (c.flag_of.ensures _) (flag-stands c.args.text.now c.args.at c.requires.0 c.requires.1 (omega arith)))
