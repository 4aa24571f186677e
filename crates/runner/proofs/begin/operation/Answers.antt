-- One of the four, or 25.
use Rattle.runner.specs.BeginLaws.{operation-gives, operation-stops}
use Rattle.runner.proofs.begin.operation.Goals as goal

pub push-requires : goal.push-requires
push-requires c = let p = c.requires in (p.0, (p.1.0, p.1.1, operation-gives c.args.s c.args.p p.1.2 c.if-p-lt-OPERATIONS.true))

pub returns-then-p-lt-OPERATIONS : goal.returns-then-p-lt-OPERATIONS
returns-then-p-lt-OPERATIONS c = λ ws budget whole l. c.push.ensures ws budget whole (operation-gives c.args.s c.args.p l c.if-p-lt-OPERATIONS.true)

pub returns : goal.returns
returns c = λ ws budget whole l. operation-stops c.args.s c.args.p l c.if-p-lt-OPERATIONS.false
