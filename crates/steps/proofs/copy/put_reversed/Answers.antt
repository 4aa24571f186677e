use Rattle.steps.specs.CopyLaws.{reversing-begins, reversing-asks, reversing-more, reversing-ends}
use native.Mathlib.Omega.{arith}
use Rattle.steps.proofs.copy.put_reversed.Goals as goal

pub loop-init : goal.loop-init
loop-init c = let a = c.args in reversing-begins a.work.now a.top a.list a.tail a.c c.requires.0 c.requires.1 c.requires.2

pub put_pair-at-requires : goal.put_pair-at-requires
put_pair-at-requires c = let a = c.args in reversing-asks a.work.now a.top a.list a.tail a.c c.requires.0 c.requires.1 c.requires.2 _ _ _ _ _ c.loop.invariant c.loop-test.true _ c.first-first.ensures

pub loop-preserved : goal.loop-preserved
loop-preserved c = let a = c.args in reversing-more a.work.now a.top a.list a.tail a.c c.requires.0 c.requires.1 c.requires.2 _ _ _ _ _ c.loop.invariant c.loop-test.true _ c.first-first.ensures _ _ c.put_pair-at.ensures c.put_pair-at.auto.work _ c.rest-node.ensures

pub shape_of-work : goal.shape_of-work
shape_of-work c = c.loop.invariant.long

pub returns : goal.returns
returns c = let a = c.args in reversing-ends a.work.now a.top a.list a.tail a.c c.requires.0 c.requires.1 c.requires.2 _ _ _ _ _ c.loop.invariant (omega (arith, c.loop-test.false))
