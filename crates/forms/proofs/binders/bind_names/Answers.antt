use Rattle.std.proofs.Common.{sym, ◌∙◌, arith}
use Rattle.arena.specs.ListLaws.{pair-falls}
use Rattle.forms.specs.BinderLaws.{opened, names-none}
use Rattle.forms.proofs.ScopeLaws.{own_below, room-one, number_small, scoping-ends, scoping-more}
use Rattle.forms.proofs.binders.bind_names.Goals as goal

pub key_of-key-requires : goal.key_of-key-requires
key_of-key-requires c =
    let a = c.args in
    let o = opened c.loop-bound.work c.loop-bound.at _ c.word.ensures a.wrap a.bound c.loop-bound-test.true c.loop-bound.invariant.ordinary _ _ _ c.reference-first.ensures c.own_name-own.ensures c.reference-at.ensures in
    number_small c.loop-bound.work c.loop-bound.at a.wrap a.bound c.loop-bound.n c.loop-bound.scope c.loop-bound.end _ _ c.loop-bound.invariant.space o

pub bind-scope-requires : goal.bind-scope-requires
bind-scope-requires c =
    let a = c.args in
    let s = c.loop-bound.invariant.space in
    let o = opened c.loop-bound.work c.loop-bound.at _ c.word.ensures a.wrap a.bound c.loop-bound-test.true c.loop-bound.invariant.ordinary _ _ _ c.reference-first.ensures c.own_name-own.ensures c.reference-at.ensures in
    (room-one c.loop-bound.work c.loop-bound.at a.wrap a.bound c.loop-bound.n c.loop-bound.scope c.loop-bound.end _ _ s o, own_below c.loop-bound.work c.loop-bound.at a.wrap a.bound c.loop-bound.n c.loop-bound.scope c.loop-bound.end _ _ s o, s.w-below, s.parent-below)

pub loop-bound-smaller : goal.loop-bound-smaller
loop-bound-smaller c =
    omega (arith, c.reference-at.ensures, pair-falls c.loop-bound.work c.loop-bound.at 1 (sym c.word.ensures ∙ c.loop-bound-test.true))

pub loop-bound-preserved : goal.loop-bound-preserved
loop-bound-preserved c =
    let a = c.args in
    let o = opened c.loop-bound.work c.loop-bound.at _ c.word.ensures a.wrap a.bound c.loop-bound-test.true c.loop-bound.invariant.ordinary _ _ _ c.reference-first.ensures c.own_name-own.ensures c.reference-at.ensures in
    scoping-more a.work.now a.list a.wrap a.bound a.number a.parent a.top c.loop-bound.work c.loop-bound.at c.loop-bound.n c.loop-bound.scope c.loop-bound.end c.loop-bound.invariant _ _ o _ _ _ c.key_of-key.ensures c.bind-scope.ensures c.bind-scope.auto.work

pub returns : goal.returns
returns c =
    let a = c.args in
    scoping-ends a.work.now a.list a.wrap a.bound a.number a.parent a.top c.loop-bound.work c.loop-bound.at c.loop-bound.n c.loop-bound.scope c.loop-bound.end c.loop-bound.invariant (names-none c.loop-bound.work c.loop-bound.at _ c.word.ensures a.wrap a.bound c.loop-bound-test.false)
