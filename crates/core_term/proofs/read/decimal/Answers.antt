use Rattle.std.proofs.Common.{rules}
use Rattle.words.specs.TestLaws.{outside_below, outside_above}
use Rattle.core_term.specs.CodeLaws.{decimal-short}
use Rattle.core_term.specs.Code.OpenedLaws.{opened-decimal, opened-no-decimal}
use Rattle.core_term.proofs.read.decimal.Goals as goal

pub returns-then-words-lt3 : goal.returns-then-words-lt3
returns-then-words-lt3 c = decimal-short _ c.requires c.if-words-lt3.true

pub returns-then-places-lt1 : goal.returns-then-places-lt1
returns-then-places-lt1 c = opened-no-decimal _ c.if-words-lt3.false c.requires (search (rules, outside_below, outside_above, c.then-places-lt1.either))

pub returns : goal.returns
returns c = opened-decimal _ c.if-words-lt3.false c.requires (search rules) (search rules)
