use Rattle.lexer.specs.ToldLaws.{name-none, name-long, name-one, name-many}
use Rattle.lexer.proofs.token.is_name.Goals as goal

pub returns-then-word-eq0 : goal.returns-then-word-eq0
returns-then-word-eq0 c = name-none c.args.word.now c.if-word-eq0.true

pub returns-then-word-gt-NAME_LENGTH : goal.returns-then-word-gt-NAME_LENGTH
returns-then-word-gt-NAME_LENGTH c = let args = c.args in
    name-long args.word.now c.if-word-gt-NAME_LENGTH.true

pub returns-then-word-eq1 : goal.returns-then-word-eq1
returns-then-word-eq1 c = let args = c.args in
    name-one args.word.now c.if-word-eq1.true

pub returns : goal.returns
returns c = let args = c.args in
    name-many args.word.now c.if-word-eq0.false c.if-word-eq1.false c.if-word-gt-NAME_LENGTH.false
