use Rattle.std.proofs.Common.{arith}
use Rattle.core_term.specs.CodeLaws.{lambda-short, lambda-cut}
use Rattle.core_term.specs.Code.OpenedLaws.{opened-lambda, opened-no-lambda}
use Rattle.core_term.proofs.read.lambda.Goals as goal

pub returns-then-words-lt3 : goal.returns-then-words-lt3
returns-then-words-lt3 c = lambda-short _ c.requires c.if-words-lt3.true

pub returns-then-words-count : goal.returns-then-words-count
returns-then-words-count c = lambda-cut _ c.requires c.if-words-lt3.false (omega (arith, c.if-words-lt3.false, c.if-words-count.true))

pub returns-then-count-gt-FORMALS : goal.returns-then-count-gt-FORMALS
returns-then-count-gt-FORMALS c = opened-no-lambda _ (omega (arith, c.if-words-lt3.false, c.if-words-count.false)) c.requires c.if-count-gt-FORMALS.true

pub returns : goal.returns
returns c = opened-lambda _ (omega (arith, c.if-words-lt3.false, c.if-words-count.false)) c.requires c.if-count-gt-FORMALS.false
