-- `direct::binding`: the first binder of the pending wrap, else of the name's own.
use Rattle.std.proofs.lemmas.Option.{IfSome_then}
use Rattle.resolution.specs.DirectLaws.{finds-outer, finds-inner, finds-none}
use Rattle.resolution.proofs.direct.binding.Goals as goal

pub returns-then-outer-ne0 : goal.returns-then-outer-ne0
returns-then-outer-ne0 c =
    let a = c.args in
    IfSome_then _ c.binding_by.ensures (λ r p. finds-outer a.work.now a.number a.own a.w _ c.passed-outer.ensures r p)

pub returns-then-inner-ne0 : goal.returns-then-inner-ne0
returns-then-inner-ne0 c =
    let a = c.args in
    IfSome_then _ c.binding_by-then-inner-ne0.ensures (λ r p. finds-inner a.work.now a.number a.own a.w _ c.passed-outer.ensures _ r c.if-outer-ne0.false c.passed-inner.ensures p)

pub returns : goal.returns
returns c =
    let a = c.args in
    finds-none a.work.now a.number a.own a.w _ c.passed-outer.ensures _ c.if-outer-ne0.false c.passed-inner.ensures c.if-inner-ne0.false
