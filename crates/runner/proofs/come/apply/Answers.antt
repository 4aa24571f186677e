-- By the head.
use Rattle.std.proofs.Common.{sym, ◌∙◌}
use Rattle.runner.specs.ComeLaws.{head-other}
use Rattle.runner.proofs.come.apply.Goals as goal

pub call-requires : goal.call-requires
call-requires c = (sym c.value_at.ensures ∙ c.in-Closure.is, c.requires)

pub operation-requires : goal.operation-requires
operation-requires c = (sym c.value_at.ensures ∙ c.in-Operation.is, (c.args.words.now, c.requires))

pub returns-in-Operation : goal.returns-in-Operation
returns-in-Operation c = λ budget whole x. c.operation.ensures c.args.words.now budget whole x

pub returns-in_default : goal.returns-in_default
returns-in_default c = λ budget whole x. head-other c.args.s c.args.base _ x
    (λ at e q. c.in_default.not-Closure at e (c.value_at.ensures ∙ q)) (λ p q. c.in_default.not-Operation p (c.value_at.ensures ∙ q))
