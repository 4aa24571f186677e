-- `agree::reached`. The loop's invariant: the lists are of one length in the copies so far, and the largest of their counts is known.
use Rattle.std.proofs.Common.{Some}
use Rattle.environments.specs.Marks.{Goes}
use Rattle.environments.specs.Reached.{Reached}
use Rattle.environments.proofs.agree.reached.Given as goal

abbrev pub invariant-loop : goal.invariant-loop
invariant-loop l =
    Reached l.work l.env l.e (Some l.counter) l.largest × Goes l.work l.env l.drive l.moving l.counter l.table
