use Rattle.std.proofs.Common.{sym, ◌∙◌, arith}
use Rattle.arena.specs.ListLaws.{pair-falls}
use Rattle.forms.specs.BinderLaws.{opened, names-none, distinct_none, distinct-not, distinct-later}
use Rattle.forms.proofs.binders.are_distinct.Goals as goal

pub is_among-requires : goal.is_among-requires
is_among-requires c =
    let a = c.args in
    let o = opened a.work.now c.loop-bound.at _ c.word.ensures a.wrap a.bound c.loop-bound-test.true c.loop-bound.invariant.0 _ _ _ c.reference-first.ensures c.own_name-own.ensures c.reference-at.ensures in
    o.ordinary

pub returns-then-is_among : goal.returns-then-is_among
returns-then-is_among c =
    let a = c.args in
    let o = opened a.work.now c.loop-bound.at _ c.word.ensures a.wrap a.bound c.loop-bound-test.true c.loop-bound.invariant.0 _ _ _ c.reference-first.ensures c.own_name-own.ensures c.reference-at.ensures in
    distinct-not _ _ _ _ o.names-are c.is_among.ensures c.if-is_among.true ∙ sym c.loop-bound.invariant.1

pub loop-bound-smaller : goal.loop-bound-smaller
loop-bound-smaller c =
    let a = c.args in
    omega (arith, c.reference-at.ensures, pair-falls a.work.now c.loop-bound.at 1 (sym c.word.ensures ∙ c.loop-bound-test.true))

pub loop-bound-preserved : goal.loop-bound-preserved
loop-bound-preserved c =
    let a = c.args in
    let o = opened a.work.now c.loop-bound.at _ c.word.ensures a.wrap a.bound c.loop-bound-test.true c.loop-bound.invariant.0 _ _ _ c.reference-first.ensures c.own_name-own.ensures c.reference-at.ensures in
    (o.ordinary, c.loop-bound.invariant.1 ∙ distinct-later _ _ _ _ o.names-are c.is_among.ensures c.if-is_among.false)

pub returns : goal.returns
returns c =
    let a = c.args in
    distinct_none _ (names-none a.work.now c.loop-bound.at _ c.word.ensures a.wrap a.bound c.loop-bound-test.false) ∙ sym c.loop-bound.invariant.1
