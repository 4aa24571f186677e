use native.Mathlib.Omega.{arith}
use Rattle.runner.specs.Due.{going_start, going_end, going-inside, going-shape, going-sizes, going-inner}
use Rattle.runner.proofs.places.skip.Goals as goal

pub loop-due-init : goal.loop-due-init
loop-due-init c = going_start _ c.requires

pub offset_bounds-words-at : goal.offset_bounds-words-at
offset_bounds-words-at c = record { fits = omega (arith, going-inside c.loop-due-test.true c.loop-due.invariant, c.well_formed.0) }

pub slice_bounds-shape_at-count : goal.slice_bounds-shape_at-count
slice_bounds-shape_at-count c = omega (arith, going-inside c.loop-due-test.true c.loop-due.invariant)

pub slice_bounds-shape_at-start : goal.slice_bounds-shape_at-start
slice_bounds-shape_at-start c = omega (arith, going-inside c.loop-due-test.true c.loop-due.invariant)

pub unwrap-n-requires : goal.unwrap-n-requires
unwrap-n-requires c = going-shape c.loop-due-test.true c.loop-due.invariant _ c.shape_at.ensures

pub overflow_add-at : goal.overflow_add-at
overflow_add-at c = let z = going-sizes c.loop-due-test.true c.loop-due.invariant _ c.shape_at.ensures _ c.unwrap-n.ensures in
    record { fits = omega (arith, z.1, c.well_formed.0) }

pub overflow_sub-due : goal.overflow_sub-due
overflow_sub-due c = omega (arith, c.loop-due-test.true)

pub overflow_add-due : goal.overflow_add-due
overflow_add-due c = let z = going-sizes c.loop-due-test.true c.loop-due.invariant _ c.shape_at.ensures _ c.unwrap-n.ensures in
    record { fits = omega (arith, z.2, c.well_formed.0) }

pub loop-due-smaller : goal.loop-due-smaller
loop-due-smaller c = let z = going-sizes c.loop-due-test.true c.loop-due.invariant _ c.shape_at.ensures _ c.unwrap-n.ensures in
    omega (arith, z.0, z.1)

pub loop-due-preserved : goal.loop-due-preserved
loop-due-preserved c = going-inner c.loop-due-test.true c.loop-due.invariant _ c.shape_at.ensures _ c.unwrap-n.ensures

pub returns : goal.returns
returns c = going_end (omega (arith, c.loop-due-test.false)) c.loop-due.invariant
