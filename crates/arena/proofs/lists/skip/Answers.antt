use Rattle.std.proofs.Common.{◌≡◌, ◌+◌, ◌-◌, arith}
use Rattle.arena.specs.ListLaws.{skip-begins, skip-more, skip-ends}
use Rattle.arena.proofs.lists.skip.Goals as goal

pub loop-init : goal.loop-init
loop-init c =
    let a = c.args in
    let e : a.n - 0 ≡ a.n = omega arith in
    rw e (skip-begins a.work.now a.list a.n)

pub loop-preserved : goal.loop-preserved
loop-preserved c =
    let a = c.args in
    let e : a.n - (c.loop.counter + 1) ≡ a.n - c.loop.counter - 1 = omega arith in
    rw e (skip-more a.work.now a.list a.n c.loop.node (a.n - c.loop.counter) _ (λ z. omega arith) c.rest-node.ensures c.loop.invariant)

pub returns : goal.returns
returns c =
    let a = c.args in
    skip-ends a.work.now a.list a.n c.loop.node (a.n - c.loop.counter) (omega arith) c.loop.invariant
