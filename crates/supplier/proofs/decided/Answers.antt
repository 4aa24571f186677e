use Rattle.std.proofs.Common.{arith, rules}
use Rattle.supplier.specs.ElementLaws.{element-yes, element-no, element-open, element-outside}
use Rattle.supplier.proofs.decided.Goals as goal

pub expression-found-requires : goal.expression-found-requires
expression-found-requires c = (c.requires.0, (omega arith, c.requires.1, omega arith), c.requires.2)

pub returns-in-Ok : goal.returns-in-Ok
returns-in-Ok c = element-yes _ _ _ _ _ _ _ c.expression-found.ensures.walked _ c.in-Ok.is

pub returns-in-Err-Other : goal.returns-in-Err-Other
returns-in-Err-Other c = element-no _ _ _ _ _ _ _ c.expression-found.ensures.walked _ c.in-Err-Other.is (search rules)

pub returns-in-Err-Open : goal.returns-in-Err-Open
returns-in-Err-Open c = element-open _ _ _ _ _ _ _ c.expression-found.ensures.walked _ c.in-Err-Open.is (search rules)

pub returns-in-Err-Outside : goal.returns-in-Err-Outside
returns-in-Err-Outside c = element-outside _ _ _ _ _ _ _ c.expression-found.ensures.walked _ c.in-Err-Outside.is (search rules)
