use Rattle.std.proofs.Common.{refl, sym, ◌∙◌, arith}
use Rattle.arena.specs.ListLaws.{pair-falls}
use Rattle.forms.specs.BinderLaws.{opened, names-none, among_none, among_first, among_later}
use Rattle.forms.proofs.binders.is_among.Goals as goal

pub returns-then-same_names : goal.returns-then-same_names
returns-then-same_names c =
    let a = c.args in
    let o = opened a.work.now c.loop-bound.at _ c.word.ensures a.wrap a.bound c.loop-bound-test.true c.loop-bound.invariant.0 _ _ _ c.reference-first.ensures c.own_name-own.ensures refl in
    among_first _ _ _ _ _ o.names-are c.same_names.ensures c.if-same_names.true ∙ sym c.loop-bound.invariant.1

pub loop-bound-smaller : goal.loop-bound-smaller
loop-bound-smaller c =
    let a = c.args in
    omega (arith, c.reference-at.ensures, pair-falls a.work.now c.loop-bound.at 1 (sym c.word.ensures ∙ c.loop-bound-test.true))

pub loop-bound-preserved : goal.loop-bound-preserved
loop-bound-preserved c =
    let a = c.args in
    let o = opened a.work.now c.loop-bound.at _ c.word.ensures a.wrap a.bound c.loop-bound-test.true c.loop-bound.invariant.0 _ _ _ c.reference-first.ensures c.own_name-own.ensures c.reference-at.ensures in
    (o.ordinary, c.loop-bound.invariant.1 ∙ among_later _ _ _ _ _ o.names-are c.same_names.ensures c.if-same_names.false)

pub returns : goal.returns
returns c =
    let a = c.args in
    among_none _ _ (names-none a.work.now c.loop-bound.at _ c.word.ensures a.wrap a.bound c.loop-bound-test.false) ∙ sym c.loop-bound.invariant.1
