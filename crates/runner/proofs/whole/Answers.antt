-- By the value.
use borrow.Author.Rules.{rules}
use Rattle.runner.specs.ServiceLaws.{whole-told}
use Rattle.runner.specs.declared.rows.Value.TheVariants.{Number, Boolean, Datum, Closure, Operation}
use Rattle.runner.proofs.whole.Goals as goal

pub returns-in-Number : goal.returns-in-Number
returns-in-Number c = whole-told (Number c.in-Number.w) (search rules) _ c.in-Number.is

pub returns-in-Boolean : goal.returns-in-Boolean
returns-in-Boolean c = whole-told (Boolean c.in-Boolean.b) tt _ c.in-Boolean.is

pub returns-in-Datum : goal.returns-in-Datum
returns-in-Datum c = whole-told (Datum c.in-Datum.at) tt _ c.in-Datum.is

pub returns-in-Closure : goal.returns-in-Closure
returns-in-Closure c = whole-told (Closure _ _) tt _ c.in-Closure.is

pub returns-in-Operation : goal.returns-in-Operation
returns-in-Operation c = whole-told (Operation _) tt _ c.in-Operation.is
