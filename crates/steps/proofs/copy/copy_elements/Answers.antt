use Rattle.steps.specs.CopyLaws.{going-begins, going-ends, elements-none, element-waits, element-costly, element-room, going_more}
use native.Mathlib.Omega.{arith}
use Rattle.steps.proofs.copy.copy_elements.Goals as goal

pub loop-init : goal.loop-init
loop-init c =
    let a = c.args in
    going-begins a.work.now a.top a.fuel a.list a.w a.c c.requires

pub copy_part-requires : goal.copy_part-requires
copy_part-requires c =
    let a = c.args in
    rw c.in_ok-spare.ensures.1 (element-waits a.work.now a.top a.fuel a.list a.w a.c c.requires _ _ _ _ _ c.loop.invariant c.loop-test.true (omega (arith, c.in_ok-spare.ensures.0)) _ c.first-first.ensures)

pub returns-in_err-head : goal.returns-in_err-head
returns-in_err-head c =
    let a = c.args in
    rw c.from_residual-in_err-head.ensures (element-costly a.work.now a.top a.fuel a.list a.w a.c c.requires _ _ _ _ _ c.loop.invariant c.loop-test.true (omega (arith, c.in_ok-spare.ensures.0)) _ c.first-first.ensures _ (rw c.in_ok-spare.ensures.1 at c.in_err-head.ensures))

pub put_pair-at-requires : goal.put_pair-at-requires
put_pair-at-requires c =
    let a = c.args in
    let b = rw c.in_ok-spare.ensures.1 at c.in_ok-head.ensures in (element-room a.work.now a.top a.fuel a.list a.w a.c c.requires _ _ _ _ _ c.loop.invariant c.loop-test.true (omega (arith, c.in_ok-spare.ensures.0)) _ c.first-first.ensures _ _ _ b c.copy_part.auto.work, omega arith, b.above)

pub loop-preserved : goal.loop-preserved
loop-preserved c =
    let a = c.args in
    going_more a.work.now a.top a.fuel a.list a.w a.c c.requires _ _ _ _ _ c.loop.invariant c.loop-test.true (omega (arith, c.in_ok-spare.ensures.0)) _ c.first-first.ensures _ _ _ (rw c.in_ok-spare.ensures.1 at c.in_ok-head.ensures) c.copy_part.auto.work _ c.rest-node.ensures _ _ c.put_pair-at.ensures c.put_pair-at.auto.work

pub returns : goal.returns
returns c =
    let a = c.args in
    going-ends a.work.now a.top a.fuel a.list a.w a.c c.requires _ _ _ _ _ c.loop.invariant (omega (arith, c.loop-test.false))

pub returns-in_err-spare : goal.returns-in_err-spare
returns-in_err-spare c =
    let a = c.args in
    rw c.from_residual.ensures (elements-none a.work.now a.top a.fuel a.list a.w a.c c.requires _ _ _ _ _ c.loop.invariant c.loop-test.true (omega (arith, c.in_err-spare.ensures)))
