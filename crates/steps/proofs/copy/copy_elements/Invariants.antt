-- `copy::copy_elements`: along the list, each element behind those before it.
use Rattle.steps.specs.CopyLaws.{Going}
use Rattle.steps.proofs.copy.copy_elements.Given as goal

abbrev pub invariant-loop : goal.invariant-loop
invariant-loop l =
    Going l.fn.work l.work l.top l.fuel l.list l.w l.c l.counter l.at l.node l.left
