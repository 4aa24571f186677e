use Rattle.std.proofs.Common.{◌≡◌, length, arith}
use Rattle.core_term.specs.Code.OpenedLaws.{shape-here}
use Rattle.core_term.proofs.OfCode.ScanLaws.{scan-start, scan-end, scan-here, scan-sizes, scan-next, scan-names}
use Rattle.writer.specs.CalledLaws.{name-here}
use Rattle.writer.proofs.called.find.Goals as goal

pub loop-at-init : goal.loop-at-init
loop-at-init c = (scan-start c.args.words.now c.requires.0, omega arith)

pub returns-in_default : goal.returns-in_default
returns-in_default c =
    let n = scan-here c.args.words.now _ _ c.loop-at.invariant.0 c.loop-at-test.true in
    absurd (shape-here _ _ c.shape_at.ensures n.it n.left n.is c.in_default.is)

pub overflow_add-end : goal.overflow_add-end
overflow_add-end c =
    let z = scan-sizes c.args.words.now _ _ c.loop-at.invariant.0 c.loop-at-test.true c.in-Some.node c.in-Some.ensures in
    omega (arith, z.2, c.well_formed.1)

pub overflow_sub-result : goal.overflow_sub-result
overflow_sub-result c =
    let z = scan-sizes c.args.words.now _ _ c.loop-at.invariant.0 c.loop-at-test.true c.in-Some.node c.in-Some.ensures in
    omega (arith, z.1)

pub overflow_add-result : goal.overflow_add-result
overflow_add-result c =
    let z = scan-sizes c.args.words.now _ _ c.loop-at.invariant.0 c.loop-at-test.true c.in-Some.node c.in-Some.ensures in
    omega (arith, z.1, z.2, c.if-n-seen.true, c.well_formed.1)

pub offset_bounds-words-end : goal.offset_bounds-words-end
offset_bounds-words-end c =
    let z = scan-sizes c.args.words.now _ _ c.loop-at.invariant.0 c.loop-at-test.true c.in-Some.node c.in-Some.ensures in
    omega (arith, z.1, z.2, c.if-n-seen.true, c.well_formed.1)

pub bounds-words-end : goal.bounds-words-end
bounds-words-end c =
    let z = scan-sizes c.args.words.now _ _ c.loop-at.invariant.0 c.loop-at-test.true c.in-Some.node c.in-Some.ensures in
    omega (arith, z.1, z.2, c.if-n-seen.true, c.loop-at.invariant.1)

pub returns-then-n-seen : goal.returns-then-n-seen
returns-then-n-seen c =
    let z = scan-sizes c.args.words.now _ _ c.loop-at.invariant.0 c.loop-at-test.true c.in-Some.node c.in-Some.ensures in
    name-here c.args.words.now c.loop-at.at c.loop-at.seen c.in-Some.node.own c.in-Some.node.names c.args.n (scan-names c.args.words.now _ _ c.loop-at.invariant.0 c.loop-at-test.true c.in-Some.node c.in-Some.ensures) c.loop-at.invariant.1 c.if-n-seen.true z.1

pub loop-at-smaller : goal.loop-at-smaller
loop-at-smaller c =
    let z = scan-sizes c.args.words.now _ _ c.loop-at.invariant.0 c.loop-at-test.true c.in-Some.node c.in-Some.ensures in
    omega (arith, z.0, z.2)

pub loop-at-preserved : goal.loop-at-preserved
loop-at-preserved c =
    (scan-next c.args.words.now _ _ c.loop-at.invariant.0 c.loop-at-test.true c.in-Some.node c.in-Some.ensures, omega (arith, c.if-n-seen.false, c.loop-at.invariant.1))

pub returns : goal.returns
returns c =
    let e : c.loop-at.at ≡ length c.args.words.now = omega (arith, c.loop-at.invariant.0.inside, c.loop-at-test.false) in
    absurd (omega (arith, scan-end c.args.words.now _ _ c.loop-at.invariant.0 e, c.requires.1, c.loop-at.invariant.1))
