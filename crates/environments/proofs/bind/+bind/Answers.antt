use Rattle.std.proofs.Common.{sym, subst, arith}
use Rattle.environments.specs.Bind.{Binds}
use Rattle.environments.specs.PartLaws.{tag-falls}
use Rattle.environments.specs.BindLaws.{pattern-none, pattern-variable, pattern-ellipsis, pattern-last, pattern-pair}
use Rattle.environments.proofs.bind.+bind.Goals as goal

pub returns-then-tag-eq-VARIABLE : goal.returns-then-tag-eq-VARIABLE
returns-then-tag-eq-VARIABLE t c =
    let a = c.args in
    pattern-variable a.work.now a.p _ c.word-tag.ensures a.env.now a.u _ _ c.if-tag-eq-VARIABLE.true c.word-k.ensures c.bind_variable.ensures

pub bind-requires : goal.bind-requires
bind-requires t c =
    let a = c.args in
    let l = tag-falls a.work.now a.p _ c.word-tag.ensures 2 _ (λ z. omega arith) c.reference-rest.ensures in
    omega (arith, l)

pub returns-then-tag-eq-ELLIPSIS : goal.returns-then-tag-eq-ELLIPSIS
returns-then-tag-eq-ELLIPSIS t c =
    let a = c.args in
    let list = c.bind_list.ensures in
    elim c.if-rest-ne0.branch [
      | goal.then-rest-ne0 y ↦ pattern-ellipsis a.work.now a.p _ c.word-tag.ensures a.env.now _ _ c.reference-rest.ensures c.reference-head.ensures _ _ c.if-tag-eq-ELLIPSIS.true a.u _ y.after-after.ensures (subst (Binds a.work.now _ _ _) (sym y.env-is) y.bind.ensures) list
      | goal.else-rest-ne0 y ↦ pattern-last a.work.now a.p _ c.word-tag.ensures a.env.now _ _ c.reference-rest.ensures c.reference-head.ensures _ _ c.if-tag-eq-ELLIPSIS.true a.u y.if-rest-ne0.false y.env-is list
    ]

pub returns-then-tag-ne-PAIR : goal.returns-then-tag-ne-PAIR
returns-then-tag-ne-PAIR t c =
    let a = c.args in
    pattern-none a.work.now a.p _ c.word-tag.ensures a.env.now a.u c.if-tag-eq-VARIABLE.false c.if-tag-ne-PAIR.true c.if-tag-eq-ELLIPSIS.false

pub bind-requires-2 : goal.bind-requires-2
bind-requires-2 t c =
    let a = c.args in
    let l = tag-falls a.work.now a.p _ c.word-tag.ensures 2 _ (λ z. omega arith) c.reference-rest.ensures in
    omega (arith, l)

pub bind-requires-3 : goal.bind-requires-3
bind-requires-3 t c =
    let a = c.args in
    let l = tag-falls a.work.now a.p _ c.word-tag.ensures 3 _ (λ z. omega arith) c.reference-head.ensures in
    omega (arith, l)

pub returns : goal.returns
returns t c =
    let a = c.args in
    pattern-pair a.work.now a.p _ c.word-tag.ensures a.env.now _ _ c.reference-rest.ensures c.reference-head.ensures _ _ c.if-tag-ne-PAIR.false a.u _ _ c.rest-tail.ensures c.bind-2.ensures c.first-first.ensures c.bind-3.ensures
