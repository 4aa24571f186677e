use Rattle.std.proofs.Common.{◌≡◌, ◌+◌, ◌-◌, arith}
use Rattle.runner.specs.Memo.{memo-put}
use Rattle.runner.specs.Due.{going_start, going_end, going-placed, going-inside, going-past, going-ahead, going-shape, going-sizes, going-open}
use Rattle.runner.proofs.places.+mark.Goals as goal

pub offset_bounds-words-at : goal.offset_bounds-words-at
offset_bounds-words-at t c = record { fits = omega (arith, going-inside (omega arith) (going_start _ c.requires.1), c.well_formed.0) }

pub slice_bounds-shape_at-count : goal.slice_bounds-shape_at-count
slice_bounds-shape_at-count t c = omega (arith, going-inside (omega arith) (going_start _ c.requires.1))

pub slice_bounds-shape_at-start : goal.slice_bounds-shape_at-start
slice_bounds-shape_at-start t c = omega (arith, going-inside (omega arith) (going_start _ c.requires.1))

pub unwrap-n-requires : goal.unwrap-n-requires
unwrap-n-requires t c = going-shape (omega arith) (going_start _ c.requires.1) _ c.shape_at.ensures

pub overflow_add-next : goal.overflow_add-next
overflow_add-next t c =
    let z = going-sizes (omega arith) (going_start _ c.requires.1) _ c.shape_at.ensures _ c.unwrap-n.ensures in
    record { fits = omega (arith, z.1, c.well_formed.0) }

pub loop-init : goal.loop-init
loop-init t c =
    let z = going-sizes (omega arith) (going_start _ c.requires.1) _ c.shape_at.ensures _ c.unwrap-n.ensures in
    let n : c.unwrap-n.result.parts - 0 ≡ c.unwrap-n.result.parts = omega arith in
    record {
      memo = c.requires.0;
      going = rw n (going-open _ c.requires.1 _ c.shape_at.ensures _ c.unwrap-n.ensures);
      past = omega (arith, z.0);
    }

pub mark-next-requires : goal.mark-next-requires
mark-next-requires t c =
    let i = c.loop.invariant in
    (omega (arith, going-inside (omega arith) i.going, i.past), (i.memo, going-placed (omega arith) i.going))

pub loop-preserved : goal.loop-preserved
loop-preserved t c =
    let i = c.loop.invariant in
    let e = c.mark-next.ensures in
    let n : c.unwrap-n.result.parts - (c.loop.counter + 1) ≡ c.unwrap-n.result.parts - c.loop.counter - 1 = omega arith in
    record {
      memo = e.0;
      going = rw n (going-past (omega arith) i.going _ e.1);
      past = omega (arith, i.past, going-ahead (omega arith) i.going _ e.1);
    }

pub returns-then-next-lt4294967296 : goal.returns-then-next-lt4294967296
returns-then-next-lt4294967296 t c =
    let e = going_end (omega arith) c.loop.invariant.going in
    (memo-put c.args.at _ c.if-at-ends.true c.loop.invariant.memo e, e)

pub returns-else-at-ends : goal.returns-else-at-ends
returns-else-at-ends t c = (c.loop.invariant.memo, going_end (omega arith) c.loop.invariant.going)
