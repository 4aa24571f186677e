use Rattle.std.proofs.Common.{arith}
use Rattle.core_term.specs.CodeLaws.{at_none}
use Rattle.core_term.specs.Code.OpenedLaws.{opened-if}
use Rattle.core_term.proofs.read.read.Goals as goal

pub returns-then-words-eq0 : goal.returns-then-words-eq0
returns-then-words-eq0 c = at_none _ c.if-words-eq0.true

pub returns-in-6 : goal.returns-in-6
returns-in-6 c = opened-if _ (omega (arith, c.if-words-eq0.false)) c.in-6.is
