-- The loop's invariant: what was passed stands before the tail, the last first.
use Rattle.steps.specs.CopyLaws.{Reversing}
use Rattle.steps.proofs.copy.put_reversed.Given as goal

abbrev pub invariant-loop : goal.invariant-loop
invariant-loop l =
    Reversing l.fn.work l.work l.top l.list l.tail l.c l.counter l.at l.node l.rest
