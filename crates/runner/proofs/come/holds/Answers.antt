-- What the value says.
use Rattle.std.proofs.Common.{sym, ap, ◌∙◌}
use Rattle.runner.specs.ComeLaws.{holds_of, holds-is, holds-other}
use Rattle.runner.proofs.come.holds.Goals as goal

pub returns-in-Boolean : goal.returns-in-Boolean
returns-in-Boolean c = λ ws t top x i. sym (ap holds_of c.in-Boolean.is) ∙ holds-is i

pub returns-in_default : goal.returns-in_default
returns-in_default c = λ ws t top x i. holds-other c.in_default.not-Boolean i
