use native.Mathlib.Omega.{arith}
use Rattle.runner.specs.ExtendedLaws.{binding-start, binding-room, binding-more, binding-end}
use Rattle.runner.proofs.rows.bind.Goals as goal

pub loop-i-init : goal.loop-i-init
loop-i-init c = binding-start _ _ _ _ _ _ c.requires.below

pub overflow_add-first : goal.overflow_add-first
overflow_add-first c = record { fits = omega (arith, c.ranges, c.loop-i-test.true, c.requires.values, c.well_formed.0) }

pub overflow_add-from : goal.overflow_add-from
overflow_add-from c = record { fits = omega (arith, c.loop-i-test.true, c.requires.values, c.well_formed.0) }

pub extend-e-requires : goal.extend-e-requires
extend-e-requires c = binding-room _ _ _ _ _ _ c.loop-i.invariant c.requires c.loop-i-test.true

pub loop-i-preserved : goal.loop-i-preserved
loop-i-preserved c = binding-more _ _ _ _ _ _ c.loop-i.invariant c.loop-i-test.true c.extend-e.auto.table c.extend-e.ensures

pub shape_of-table : goal.shape_of-table
shape_of-table c = c.loop-i.invariant.sized

pub returns : goal.returns
returns c = binding-end _ _ _ _ _ _ c.loop-i.invariant c.loop-i-test.false
