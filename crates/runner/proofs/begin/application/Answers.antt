-- A frame for the head, which begins.
use native.Mathlib.Omega.{arith}
use Rattle.runner.specs.Here.{here-two}
use Rattle.runner.specs.BeginLaws.{spent-application}
use Rattle.runner.proofs.begin.application.Goals as goal

pub overflow_add-at : goal.overflow_add-at
overflow_add-at c = record { fits = omega (arith, here-two _ c.requires.1.2.here, c.well_formed.0) }

pub overflow_add-at-2 : goal.overflow_add-at-2
overflow_add-at-2 c = record { fits = omega (arith, here-two _ c.requires.1.2.here, c.well_formed.0) }

pub returns : goal.returns
returns c = λ budget whole x. rw (c.wait.ensures.0, c.wait.ensures.1) (spent-application c.args.s c.args.at c.args.environment c.args.operands x _ (c.after.ensures x.is.head x.is.parts.head))
