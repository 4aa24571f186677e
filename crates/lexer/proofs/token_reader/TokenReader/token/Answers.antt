use Rattle.lexer.specs.AnsweredLaws.{told-answered, past-answered}
use Rattle.lexer.proofs.token_reader.TokenReader.token.Goals as goal

pub returns-then-self : goal.returns-then-self
returns-then-self c = past-answered c.args.self.text.now c.args.self.at c.if-self.true

pub returns : goal.returns
returns c = told-answered c.args.self.text.now c.args.self.at c.token_at.result c.token_at.ensures
