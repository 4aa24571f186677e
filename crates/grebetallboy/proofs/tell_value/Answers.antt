-- Each value's numbers.
use Rattle.runner.specs.Service.{value_numbers}
use Rattle.std.proofs.Common.{ℕ, ap, ◌∙◌, [], ◌∷◌}
use Rattle.grebetallboy.specs.Calls.{told_numbers}
use Rattle.grebetallboy.specs.CallLaws.{byte-bit}
use Rattle.grebetallboy.proofs.tell_value.Goals as goal

pub returns-in-Integer : goal.returns-in-Integer
unfolding value_numbers
returns-in-Integer c = rw c.in-Integer.is c.tell.ensures

pub returns-in-Boolean : goal.returns-in-Boolean
unfolding value_numbers
returns-in-Boolean c =
    rw c.in-Boolean.is
    (c.tell-in-Boolean.ensures ∙ ap (λ (n : ℕ). told_numbers (2 ∷ n ∷ 0 ∷ c.args.units ∷ []) c.args.counts.now) (c.from.ensures ∙ byte-bit c.in-Boolean.b))

pub returns-in-Datum : goal.returns-in-Datum
unfolding value_numbers
returns-in-Datum c = rw c.in-Datum.is c.tell-in-Datum.ensures

pub returns-in-Closure : goal.returns-in-Closure
unfolding value_numbers
returns-in-Closure c = rw c.in-Closure.is c.tell-in-Closure.ensures

pub returns-in-Operation : goal.returns-in-Operation
unfolding value_numbers
returns-in-Operation c = rw c.in-Operation.is c.tell-in-Operation.ensures
