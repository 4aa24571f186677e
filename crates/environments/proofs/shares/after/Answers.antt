use Rattle.std.proofs.Common.{sym, ◌∙◌, arith}
use Rattle.arena.specs.ListLaws.{pair-falls}
use Rattle.environments.specs.ShareLaws.{ahead-begins, left-begins, left-more, left-ends}
use Rattle.environments.proofs.shares.after.Goals as goal

pub loop-node-init : goal.loop-node-init
loop-node-init c =
    let a = c.args in
    left-begins a.work.now a.p a.list _ (ahead-begins a.work.now a.p a.list _ _ c.word.ensures c.skip-ahead.ensures)

pub loop-node-smaller : goal.loop-node-smaller
loop-node-smaller c =
    omega (arith, c.reference-ahead.ensures, pair-falls c.args.work.now c.loop-node.ahead 1 (sym c.word-in-loop-node.ensures ∙ c.loop-node-test.true))

pub loop-node-preserved : goal.loop-node-preserved
loop-node-preserved c =
    let a = c.args in
    left-more a.work.now a.p a.list c.loop-node.node c.loop-node.ahead _ c.word-in-loop-node.ensures c.loop-node.invariant _ _ c.loop-node-test.true c.reference-node.ensures c.reference-ahead.ensures

pub returns : goal.returns
returns c =
    let a = c.args in
    left-ends a.work.now a.p a.list c.loop-node.node c.loop-node.ahead _ c.word-in-loop-node.ensures c.loop-node.invariant c.loop-node-test.false
