use Rattle.forms.specs.ShapeLaws.{all_none, all-over, all_first, all-later}
use Rattle.forms.proofs.shapes.binds_all.Goals as goal

pub returns-then-left-eq0 : goal.returns-then-left-eq0
returns-then-left-eq0 c =
    let a = c.args in
    all-over a.work.now a.bound a.list a.most c.loop-bound.node c.loop-bound.left c.loop-bound.invariant _ c.word.ensures c.loop-bound-test.true c.if-left-eq0.true

pub returns-then-not-binds_one : goal.returns-then-not-binds_one
returns-then-not-binds_one c =
    let a = c.args in
    all_first a.work.now a.bound a.list a.most c.loop-bound.node c.loop-bound.left c.loop-bound.invariant _ c.word.ensures c.loop-bound-test.true _ _ c.reference-first.ensures c.binds_one.ensures c.if-not-binds_one.true

pub loop-bound-preserved : goal.loop-bound-preserved
loop-bound-preserved c =
    let a = c.args in
    all-later a.work.now a.bound a.list a.most c.loop-bound.node c.loop-bound.left c.loop-bound.invariant _ c.word.ensures c.loop-bound-test.true _ _ c.reference-first.ensures c.binds_one.ensures _ c.if-not-binds_one.false c.if-left-eq0.false c.reference-node.ensures

pub returns : goal.returns
returns c =
    let a = c.args in
    all_none a.work.now a.bound a.list a.most c.loop-bound.node c.loop-bound.left c.loop-bound.invariant _ c.word.ensures c.loop-bound-test.false
