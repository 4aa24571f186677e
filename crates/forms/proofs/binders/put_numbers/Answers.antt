use Rattle.std.proofs.Common.{refl, arith}
use Rattle.arena.specs.Arena.{reference_at}
use Rattle.forms.specs.NumberLaws.{putting-begins, putting-ends, putting-room, putting-falls, putting-more}
use Rattle.forms.proofs.binders.put_numbers.Goals as goal

pub loop-first-init : goal.loop-first-init
loop-first-init c =
    (c.requires.0, putting-begins c.args.work.now c.args.list c.requires.0 c.args.at c.args.core.now c.requires.1 c.requires.2)

pub bounds-core-n : goal.bounds-core-n
bounds-core-n c =
    let a = c.args in
    putting-room a.work.now a.list c.loop-first.invariant.0 a.at a.core.now c.loop-first.node c.loop-first.n c.loop-first.core c.loop-first.invariant.1 _ c.word.ensures c.loop-first-test.true _ _ (reference_at a.work.now c.loop-first.node 1) _ c.reference-first.ensures c.own_name-own.ensures refl c.number_of.ensures

pub overflow_add-n : goal.overflow_add-n
overflow_add-n c =
    let a = c.args in
    omega (arith, putting-room a.work.now a.list c.loop-first.invariant.0 a.at a.core.now c.loop-first.node c.loop-first.n c.loop-first.core c.loop-first.invariant.1 _ c.word.ensures c.loop-first-test.true _ _ _ _ c.reference-first.ensures c.own_name-own.ensures c.reference-node.ensures c.number_of.ensures, c.loop-first.invariant.1.same)

pub loop-first-smaller : goal.loop-first-smaller
loop-first-smaller c =
    let a = c.args in
    putting-falls a.work.now a.list c.loop-first.invariant.0 a.at a.core.now c.loop-first.node c.loop-first.n c.loop-first.core c.loop-first.invariant.1 _ c.word.ensures c.loop-first-test.true _ _ _ _ c.reference-first.ensures c.own_name-own.ensures c.reference-node.ensures c.number_of.ensures

pub loop-first-preserved : goal.loop-first-preserved
loop-first-preserved c =
    let a = c.args in
    (c.loop-first.invariant.0, putting-more a.work.now a.list c.loop-first.invariant.0 a.at a.core.now c.loop-first.node c.loop-first.n c.loop-first.core c.loop-first.invariant.1 _ c.word.ensures c.loop-first-test.true _ _ _ _ c.reference-first.ensures c.own_name-own.ensures c.reference-node.ensures c.number_of.ensures)

pub returns : goal.returns
returns c =
    let a = c.args in
    λ w h. putting-ends a.work.now a.list c.loop-first.invariant.0 a.at a.core.now c.loop-first.node c.loop-first.n c.loop-first.core c.loop-first.invariant.1 _ c.word.ensures c.loop-first-test.false w h
