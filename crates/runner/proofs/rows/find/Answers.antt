use native.Mathlib.Omega.{arith}
use Rattle.runner.specs.FoundLaws.{seeking-start, seeking-end, seeking-own, seeking-other}
use Rattle.runner.proofs.rows.find.Goals as goal

pub loop-e-init : goal.loop-e-init
loop-e-init c = (c.requires.rows, seeking-start _ _ _)

pub overflow_sub-at : goal.overflow_sub-at
overflow_sub-at c = omega (arith, c.loop-e-test.true)

pub offset_bounds-table-at : goal.offset_bounds-table-at
offset_bounds-table-at c = record { fits = omega (arith, c.loop-e.invariant.0, c.loop-e-test.true, c.well_formed.0) }

pub bounds-table-at : goal.bounds-table-at
bounds-table-at c = omega (arith, c.loop-e.invariant.0, c.loop-e-test.true)

pub returns-then-table-at : goal.returns-then-table-at
returns-then-table-at c = λ ws env i. rw c.value_of-v.ensures (seeking-own _ _ _ _ c.loop-e.invariant.1 (omega (arith, c.ranges)) c.loop-e-test.true c.if-table-at.true ws env i)

pub loop-e-smaller : goal.loop-e-smaller
loop-e-smaller c = let next = seeking-other _ _ _ _ c.loop-e.invariant.1 (omega (arith, c.ranges)) c.loop-e-test.true c.if-table-at.false c.requires in
    next.0

pub loop-e-preserved : goal.loop-e-preserved
loop-e-preserved c = let next = seeking-other _ _ _ _ c.loop-e.invariant.1 (omega (arith, c.ranges)) c.loop-e-test.true c.if-table-at.false c.requires in
    (omega (arith, next.0, c.loop-e.invariant.0), next.1)

pub returns : goal.returns
returns c = seeking-end _ _ _ _ c.loop-e.invariant.1 (omega (arith, c.ranges)) (omega (arith, c.loop-e-test.false))
