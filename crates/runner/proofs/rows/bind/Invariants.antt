-- What is left to be bound binds as the whole does.
use Rattle.runner.specs.ExtendedLaws.{Binding}
use Rattle.runner.proofs.rows.bind.Given as goal

abbrev pub invariant-loop-i : goal.invariant-loop-i
invariant-loop-i l = Binding l.fn.table l.cells l.environment l.first l.from l.count l.i l.table l.e.environment l.e.cells
