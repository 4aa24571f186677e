use Rattle.std.proofs.Common.{◌≡◌, ◌+◌, ◌-◌, ◌≤◌, length, take, drop, sym, refl, ap, ◌∙◌, arith}
use Rattle.core_term.specs.Code.OpenedLaws.{shape-here}
use Rattle.core_term.proofs.OfCode.ScanLaws.{scan-start, scan-more, scan-here, scan-sizes, scan-next, scan-names, scan-count}
use Rattle.writer.specs.CalledLaws.{notes-more, notes-all}
use Rattle.writer.proofs.called.note.Goals as goal

pub loop-seen-init : goal.loop-seen-init
loop-seen-init c = (scan-start c.args.words.now c.requires.0, refl, refl)

pub returns-in_default : goal.returns-in_default
returns-in_default c =
    let m = scan-more c.args.words.now _ _ c.loop-seen.invariant.0 (omega (arith, c.loop-seen-test.true, c.requires.1)) in
    let n = scan-here c.args.words.now _ _ c.loop-seen.invariant.0 m in
    absurd (shape-here _ _ c.shape_at.ensures n.it n.left n.is c.in_default.is)

pub overflow_add-end : goal.overflow_add-end
overflow_add-end c =
    let m = scan-more c.args.words.now _ _ c.loop-seen.invariant.0 (omega (arith, c.loop-seen-test.true, c.requires.1)) in
    let z = scan-sizes c.args.words.now _ _ c.loop-seen.invariant.0 m c.in-Some.node c.in-Some.ensures in
    omega (arith, z.2, c.well_formed)

pub overflow_sub-end : goal.overflow_sub-end
overflow_sub-end c =
    let m = scan-more c.args.words.now _ _ c.loop-seen.invariant.0 (omega (arith, c.loop-seen-test.true, c.requires.1)) in
    let z = scan-sizes c.args.words.now _ _ c.loop-seen.invariant.0 m c.in-Some.node c.in-Some.ensures in
    omega (arith, z.1)

pub offset_bounds-words-end : goal.offset_bounds-words-end
offset_bounds-words-end c =
    let m = scan-more c.args.words.now _ _ c.loop-seen.invariant.0 (omega (arith, c.loop-seen-test.true, c.requires.1)) in
    let z = scan-sizes c.args.words.now _ _ c.loop-seen.invariant.0 m c.in-Some.node c.in-Some.ensures in
    omega (arith, z.1, z.2, c.well_formed)

pub slice_bounds-put-start : goal.slice_bounds-put-start
slice_bounds-put-start c =
    let m = scan-more c.args.words.now _ _ c.loop-seen.invariant.0 (omega (arith, c.loop-seen-test.true, c.requires.1)) in
    let z = scan-sizes c.args.words.now _ _ c.loop-seen.invariant.0 m c.in-Some.node c.in-Some.ensures in
    omega (arith, z.1)

pub slice_bounds-put-end : goal.slice_bounds-put-end
slice_bounds-put-end c =
    let m = scan-more c.args.words.now _ _ c.loop-seen.invariant.0 (omega (arith, c.loop-seen-test.true, c.requires.1)) in
    let z = scan-sizes c.args.words.now _ _ c.loop-seen.invariant.0 m c.in-Some.node c.in-Some.ensures in
    omega (arith, z.2)

pub put-requires : goal.put-requires
put-requires c =
    let m = scan-more c.args.words.now _ _ c.loop-seen.invariant.0 (omega (arith, c.loop-seen-test.true, c.requires.1)) in
    let z = scan-sizes c.args.words.now _ _ c.loop-seen.invariant.0 m c.in-Some.node c.in-Some.ensures in
    omega (arith, z.3, scan-count c.args.words.now _ _ c.loop-seen.invariant.0 m c.in-Some.node c.in-Some.ensures, c.loop-seen.invariant.1, c.requires.1, c.requires.2)

pub overflow_add-seen : goal.overflow_add-seen
overflow_add-seen c =
    let m = scan-more c.args.words.now _ _ c.loop-seen.invariant.0 (omega (arith, c.loop-seen-test.true, c.requires.1)) in
    let z = scan-sizes c.args.words.now _ _ c.loop-seen.invariant.0 m c.in-Some.node c.in-Some.ensures in
    omega (arith, z.3, c.requires.1, c.requires.2, c.well_formed)

pub loop-seen-smaller : goal.loop-seen-smaller
loop-seen-smaller c =
    let m = scan-more c.args.words.now _ _ c.loop-seen.invariant.0 (omega (arith, c.loop-seen-test.true, c.requires.1)) in
    let z = scan-sizes c.args.words.now _ _ c.loop-seen.invariant.0 m c.in-Some.node c.in-Some.ensures in
    omega (arith, z.0, z.2)

pub loop-seen-preserved : goal.loop-seen-preserved
loop-seen-preserved c =
    let m = scan-more c.args.words.now _ _ c.loop-seen.invariant.0 (omega (arith, c.loop-seen-test.true, c.requires.1)) in
    let z = scan-sizes c.args.words.now _ _ c.loop-seen.invariant.0 m c.in-Some.node c.in-Some.ensures in
    let ws = c.args.words.now in
    let count = c.in-Some.node.names in
    let end = c.loop-seen.at + c.in-Some.node.own in
    let k = scan-count ws _ _ c.loop-seen.invariant.0 m c.in-Some.node c.in-Some.ensures in
    let n = scan-names ws _ _ c.loop-seen.invariant.0 m c.in-Some.node c.in-Some.ensures in
    let room : c.loop-seen.seen + count ≤ length c.loop-seen.table = omega (arith, z.3, c.loop-seen.invariant.1, c.requires.1, c.requires.2) in (
      scan-next ws _ _ c.loop-seen.invariant.0 m c.in-Some.node c.in-Some.ensures,
      c.put.auto.table ∙ c.loop-seen.invariant.1,
      ap (take (c.loop-seen.seen + count)) c.put.ensures
          ∙ notes-more ws c.loop-seen.table (take (end - (end - count)) (drop (end - count) ws)) c.loop-seen.seen count c.loop-seen.invariant.2 room z.3 k n,
    )

pub returns : goal.returns
returns c =
    let e : c.loop-seen.seen ≡ c.args.count = omega (arith, c.loop-seen.invariant.0.known, c.loop-seen-test.false, c.requires.1) in
    ap (λ n. take n c.loop-seen.table) (sym e) ∙ notes-all c.args.words.now c.loop-seen.table c.loop-seen.seen c.loop-seen.invariant.2 (omega (arith, e, c.requires.1))
