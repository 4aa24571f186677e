use Rattle.arena.specs.ListLaws.{kind-some, count-more, count_none}
use Rattle.std.proofs.Common.{arith}
use Rattle.arena.specs.ArenaLaws.{reference_at-falls}
use Rattle.arena.proofs.lists.count.Goals as goal

pub overflow_add-k : goal.overflow_add-k
overflow_add-k c =
    let a = c.args in omega (arith, c.loop-node.invariant.low, reference_at-falls a.work.now c.loop-node.node 1 (kind-some a.work.now c.loop-node.node _ c.word.ensures c.loop-node-test.true))

pub loop-node-smaller : goal.loop-node-smaller
loop-node-smaller c =
    let a = c.args in omega (arith, c.reference-node.ensures, reference_at-falls a.work.now c.loop-node.node 1 (kind-some a.work.now c.loop-node.node _ c.word.ensures c.loop-node-test.true))

pub loop-node-preserved : goal.loop-node-preserved
loop-node-preserved c =
    let a = c.args in count-more a.work.now c.loop-node.node _ c.word.ensures a.list c.loop-node.k _ c.loop-node-test.true c.reference-node.ensures c.loop-node.invariant

pub returns : goal.returns
returns c =
    let a = c.args in count_none a.work.now c.loop-node.node _ c.word.ensures a.list c.loop-node.k c.loop-node-test.false c.loop-node.invariant
