use Rattle.environments.specs.ShareLaws.{skipping_begins, skipping-ends, skipping-short, skipping-more}
use Rattle.environments.proofs.shares.look_ahead.Goals as goal

pub loop-k-init : goal.loop-k-init
loop-k-init c =
    let a = c.args in
    skipping_begins a.work.now a.p a.list _ c.word-n.ensures

pub returns-then-word-ne-PAIR : goal.returns-then-word-ne-PAIR
returns-then-word-ne-PAIR c =
    let a = c.args in
    skipping-short a.work.now a.p a.list _ c.word-n.ensures c.loop-k.node c.loop-k.k c.loop-k.invariant _ c.word.ensures c.loop-k-test.true c.if-word-ne-PAIR.true

pub loop-k-preserved : goal.loop-k-preserved
loop-k-preserved c =
    let a = c.args in
    skipping-more a.work.now a.p a.list _ c.word-n.ensures c.loop-k.node c.loop-k.k c.loop-k.invariant _ c.word.ensures c.loop-k-test.true _ c.if-word-ne-PAIR.false c.reference-node.ensures

pub returns : goal.returns
returns c =
    let a = c.args in
    skipping-ends a.work.now a.p a.list _ c.word-n.ensures c.loop-k.node c.loop-k.k c.loop-k.invariant c.loop-k-test.false
