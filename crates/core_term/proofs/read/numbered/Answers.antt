use Rattle.std.proofs.Common.{rules}
use Rattle.core_term.specs.CodeLaws.{short-missing}
use Rattle.core_term.specs.Code.OpenedLaws.{opened-variable, opened-operation, opened-integer, opened-boolean, opened-no-boolean, opened-name, opened-list, opened-application, past-codes, opened-past}
use Rattle.core_term.proofs.read.numbered.Goals as goal

pub returns-then-words-lt2 : goal.returns-then-words-lt2
returns-then-words-lt2 c = short-missing _ c.requires.other.0 c.if-words-lt2.true

pub returns-in-0 : goal.returns-in-0
returns-in-0 c = opened-variable _ c.if-words-lt2.false c.in-0.is

pub returns-in-1 : goal.returns-in-1
returns-in-1 c = opened-operation _ c.if-words-lt2.false c.in-1.is

pub returns-in-2 : goal.returns-in-2
returns-in-2 c = opened-integer _ c.if-words-lt2.false c.in-2.is

pub returns-in-3 : goal.returns-in-3
returns-in-3 c = opened-boolean _ c.if-words-lt2.false c.in-3.is c.if-n-le1.true

pub returns-in-4 : goal.returns-in-4
returns-in-4 c = opened-name _ c.if-words-lt2.false c.in-4.is

pub returns-in-5 : goal.returns-in-5
returns-in-5 c = opened-list _ c.if-words-lt2.false c.in-5.is

pub returns-in-8 : goal.returns-in-8
returns-in-8 c = opened-application _ c.if-words-lt2.false c.in-8.is

pub returns-in_default : goal.returns-in_default
returns-in_default c = opened-no-boolean _ c.if-words-lt2.false c.in-3.is c.if-n-le1.false

pub returns-in_default-2 : goal.returns-in_default-2
returns-in_default-2 c =
    let o = c.requires.other in
    opened-past _ (past-codes _ (search rules) (search rules) (search rules) (search rules) (search rules) (search rules) o.0 o.1 (search rules) o.2)
