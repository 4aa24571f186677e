use Rattle.std.proofs.Common.{arith}
use Rattle.arena.specs.ArenaLaws.{reference_at-falls}
use Rattle.resolution.specs.DirectLaws.{around-begins, around-ends}
use Rattle.resolution.proofs.direct.lone_mark.Goals as goal

pub loop-at-init : goal.loop-at-init
loop-at-init c =
    let a = c.args in
    around-begins a.work.now a.number a.w

pub loop-at-smaller : goal.loop-at-smaller
loop-at-smaller c =
    omega (arith, c.reference-at.ensures, reference_at-falls c.args.work.now c.loop-at.at 2 (omega (arith, c.loop-at-test.true)))

pub returns : goal.returns
returns c =
    let a = c.args in
    around-ends a.work.now a.number a.w c.loop-at.at c.loop-at.mark c.loop-at.invariant c.loop-at-test.false
