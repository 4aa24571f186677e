use Rattle.writer.specs.Called.{said_of}
use Rattle.writer.specs.FormalsLaws.{Laying}
use Rattle.writer.proofs.names.formals.Given as goal

abbrev pub invariant-loop-i : goal.invariant-loop-i
invariant-loop-i l = Laying (said_of l.pen) l.pen.ink l.bound.first l.bound.count l.at l.fn.out l.i l.to l.out
