-- A frame for the test, which begins.
use native.Mathlib.Omega.{arith}
use Rattle.runner.specs.Here.{here-two}
use Rattle.runner.specs.BeginLaws.{spent-if}
use Rattle.runner.proofs.begin.test.Goals as goal

pub overflow_add-at : goal.overflow_add-at
overflow_add-at c = record { fits = omega (arith, here-two _ c.requires.1.2.here, c.well_formed.0) }

pub overflow_add-at-2 : goal.overflow_add-at-2
overflow_add-at-2 c = record { fits = omega (arith, here-two _ c.requires.1.2.here, c.well_formed.0) }

pub returns : goal.returns
returns c = λ budget whole x. rw (c.wait.ensures.0, c.wait.ensures.1) (spent-if c.args.s c.args.at c.args.environment x _ (c.after.ensures x.is.test x.is.branches.test))
