use Rattle.std.proofs.Common.{◌≡◌, ◌+◌, ◌-◌, nat_lt, true, refl, arith}
use borrow.Author.Tests.{lt-ltb}
use Rattle.core_term.specs.Code.OpenedLaws.{opened-some, opened-here}
use Rattle.writer.specs.Called.{said_of}
use Rattle.writer.specs.Pieces.{text_in, row_text}
use Rattle.writer.specs.LaidLaws.{left-room}
use Rattle.writer.specs.WalkLaws.{for-any, begins-node, begins-stands, begins-opened, begins-shaped, begins-loose, going_start, going-inside, going-shorter, going_next, going_on, gap-full, part-full, part-inside, row-stops, row_walked, open-stops, alone-walked, parts-stop, parts-room, all-walked}
use Rattle.writer.proofs.term.+parts_term.Goals as goal

pub parts-loop-i-init : goal.parts-loop-i-init
parts-loop-i-init t c =
    let e : c.args.shape.parts - 0 ≡ c.args.shape.parts = omega arith in
    rw e (going_start _ _ _ c.args.words.now _ _ c.requires.1 c.args.shape refl c.requires.2 c.requires.0)

pub parts-gap-requires : goal.parts-gap-requires
parts-gap-requires t c = left-room c.loop-i.invariant.laid _ refl

pub parts-returns-in_err-start : goal.parts-returns-in_err-start
parts-returns-in_err-start t c =
    let a = c.args in
    for-any _ (row_text (said_of a.pen)) _ _ a.words.now c.loop-i.invariant.whole _ _ _ _
    (row-stops _ _ _ c.args.words.now _ _ _ _ _ _ _ c.loop-i.invariant _ (gap-full _ _ _ c.args.words.now _ _ _ _ _ _ _ c.loop-i.invariant (omega arith) _ _ c.gap.ensures c.in_err-start.was) c.from_residual.ensures)

pub parts-slice_bounds-term-start : goal.parts-slice_bounds-term-start
parts-slice_bounds-term-start t c = let l = going-inside _ _ _ c.args.words.now _ _ _ _ _ _ _ c.loop-i.invariant in omega arith

pub parts-term-requires : goal.parts-term-requires
parts-term-requires t c =
    (omega (arith, going-shorter _ _ _ c.args.words.now _ _ _ _ _ _ _ c.loop-i.invariant, c.decreases), (left-room c.gap.ensures _ c.in_ok-start.was, going_next _ _ _ c.args.words.now _ _ _ _ _ _ _ c.loop-i.invariant (omega arith), c.requires.3))

pub parts-returns-in_err-part : goal.parts-returns-in_err-part
parts-returns-in_err-part t c =
    let a = c.args in
    for-any _ (row_text (said_of a.pen)) _ _ a.words.now c.loop-i.invariant.whole _ _ _ _
    (row-stops _ _ _ c.args.words.now _ _ _ _ _ _ _ c.loop-i.invariant _
    (part-full _ _ _ c.args.words.now _ _ _ _ _ _ _ c.loop-i.invariant (omega arith) _ _ c.gap.ensures _ c.in_ok-start.was _ _ c.term.ensures c.in_err-part.was) c.from_residual-in_err-part.ensures)

pub parts-overflow_add-used : goal.parts-overflow_add-used
parts-overflow_add-used t c =
    omega (arith, c.well_formed.0.1, part-inside _ _ _ c.args.words.now _ _ _ _ _ _ _ c.loop-i.invariant (omega arith) _ _ c.gap.ensures _ c.in_ok-start.was _ _ c.term.ensures _ c.in_ok-part.was)

pub parts-loop-i-preserved : goal.parts-loop-i-preserved
parts-loop-i-preserved t c =
    let e : c.args.shape.parts - (c.loop-i.i + 1) ≡ c.args.shape.parts - c.loop-i.i - 1 = omega arith in
    let w : nat_lt 0 (c.loop-i.i + 1) ≡ true = lt-ltb _ _ (omega arith) in
    rw (e, w) (going_on _ _ _ c.args.words.now _ _ _ _ _ _ _ c.loop-i.invariant (omega arith) _ _ c.gap.ensures _ c.in_ok-start.was _ _ c.term.ensures _ c.in_ok-part.was)

pub parts-returns : goal.parts-returns
parts-returns t c =
    let a = c.args in
    for-any _ (row_text (said_of a.pen)) _ _ a.words.now c.loop-i.invariant.whole _ _ _ _
    (row_walked _ _ _ c.args.words.now _ _ _ _ _ _ _ c.loop-i.invariant (omega arith))

pub term-returns-in_err-node : goal.term-returns-in_err-node
term-returns-in_err-node t c = absurd (opened-here _ _ c.opened.ensures _ _ (begins-node _ _ c.args.words.now c.requires.1) c.in_err-node.was)

pub term-begin-requires : goal.term-begin-requires
term-begin-requires t c =
    let o = opened-some _ _ c.opened.ensures _ c.in_ok-node.was in
    (c.requires.0, begins-opened _ _ c.args.words.now c.requires.1 _ o, c.requires.2)

pub term-returns-in_err-begun : goal.term-returns-in_err-begun
term-returns-in_err-begun t c =
    let b = c.requires.1 in
    let o = opened-some _ _ c.opened.ensures _ c.in_ok-node.was in
    let x = begins-stands _ _ c.args.words.now b _ o in
    let l = c.begin.ensures _ x in
    for-any _ (text_in (said_of c.args.pen) c.args.inner) _ _ c.args.words.now b _ _ _ _
    (open-stops _ _ _ c.args.words.now b _ _ _ _ l c.in_err-begun.was c.from_residual-in_err-begun.ensures)

pub term-close-requires : goal.term-close-requires
term-close-requires t c =
    let b = c.requires.1 in
    let o = opened-some _ _ c.opened.ensures _ c.in_ok-node.was in
    let x = begins-stands _ _ c.args.words.now b _ o in
    let l = c.begin.ensures _ x in
    left-room l _ c.in_ok-begun.was

pub term-returns-then-shape-eq0 : goal.term-returns-then-shape-eq0
term-returns-then-shape-eq0 t c =
    let b = c.requires.1 in
    let o = opened-some _ _ c.opened.ensures _ c.in_ok-node.was in
    let x = begins-stands _ _ c.args.words.now b _ o in
    let l = c.begin.ensures _ x in
    let k = left-room l _ c.in_ok-begun.was in
    for-any _ (text_in (said_of c.args.pen) c.args.inner) _ _ c.args.words.now b _ _ _ _
    (alone-walked _ _ _ c.args.words.now b _ _ _ _ l _ c.in_ok-begun.was c.shape_of-shape.result (begins-shaped _ _ c.args.words.now b _ o _ c.shape_of-shape.ensures) c.if-shape-eq0.true k _ _ (c.close.ensures _ x))

pub term-parts-requires : goal.term-parts-requires
term-parts-requires t c =
    let b = c.requires.1 in
    let o = opened-some _ _ c.opened.ensures _ c.in_ok-node.was in
    let x = begins-stands _ _ c.args.words.now b _ o in
    let l = c.begin.ensures _ x in
    (omega (arith, c.decreases), (left-room l _ c.in_ok-begun.was, begins-loose _ _ c.args.words.now b, begins-shaped _ _ c.args.words.now b _ o _ c.shape_of-shape.ensures, c.requires.2))

pub term-returns-in_err-row : goal.term-returns-in_err-row
term-returns-in_err-row t c =
    let b = c.requires.1 in
    let o = opened-some _ _ c.opened.ensures _ c.in_ok-node.was in
    let x = begins-stands _ _ c.args.words.now b _ o in
    let l = c.begin.ensures _ x in
    for-any _ (text_in (said_of c.args.pen) c.args.inner) _ _ c.args.words.now b _ _ _ _
    (parts-stop _ _ _ c.args.words.now b _ _ _ _ l _ c.in_ok-begun.was _ _ c.parts.ensures c.in_err-row.was c.from_residual-in_err-row.ensures)

pub term-close-requires-2 : goal.term-close-requires-2
term-close-requires-2 t c =
    let b = c.requires.1 in
    let o = opened-some _ _ c.opened.ensures _ c.in_ok-node.was in
    let x = begins-stands _ _ c.args.words.now b _ o in
    let l = c.begin.ensures _ x in
    parts-room _ _ _ c.args.words.now b _ _ _ _ l _ c.in_ok-begun.was _ _ c.parts.ensures _ c.in_ok-row.was

pub term-returns : goal.term-returns
term-returns t c =
    let b = c.requires.1 in
    let o = opened-some _ _ c.opened.ensures _ c.in_ok-node.was in
    let x = begins-stands _ _ c.args.words.now b _ o in
    let l = c.begin.ensures _ x in
    for-any _ (text_in (said_of c.args.pen) c.args.inner) _ _ c.args.words.now b _ _ _ _
    (all-walked _ _ _ c.args.words.now b _ _ _ _ l _ c.in_ok-begun.was _ _ c.parts.ensures _ c.in_ok-row.was _ _ (c.close-2.ensures _ x))
