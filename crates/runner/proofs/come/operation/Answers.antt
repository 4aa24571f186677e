-- Their number, their kinds from the left, and the operation.
use Rattle.std.proofs.Common.{sym, ◌∙◌}
use Rattle.std.proofs.lemmas.Result.{err_from_is_err_and}
use native.Mathlib.Omega.{arith}
use Rattle.runner.specs.ComeLaws.{place_of, operation-number, operation-first, operation-second, made-value, made-ground}
use Rattle.runner.proofs.come.operation.Goals as goal

pub returns-then-n-ne2 : goal.returns-then-n-ne2
returns-then-n-ne2 c = λ ws budget whole x. let a = c.args in operation-number a.s a.base a.n x a.place c.requires.0 c.if-n-ne2.true

pub value_at-requires-2 : goal.value_at-requires-2
value_at-requires-2 c = let x = c.requires.1.1.2 in omega (arith, x.rows, x.room.rows, x.room.within, x.room.lent, c.if-n-ne2.false)

pub operate-requires : goal.operate-requires
operate-requires c = let a = c.args in (place_of a.s a.base a.n c.requires.1.1.2 a.place c.requires.0).1

pub overflow_sub-popped : goal.overflow_sub-popped
overflow_sub-popped c = let x = c.requires.1.1.2 in omega (arith, x.framed)

pub returns-in_default : goal.returns-in_default
returns-in_default c = λ ws budget whole x. let a = c.args in
    operation-first a.s a.base a.n x a.place c.requires.0 c.if-n-ne2.false (λ w q. c.in_default.not-Number w (c.value_at.ensures ∙ q))

pub returns-in_default-value_at : goal.returns-in_default-value_at
returns-in_default-value_at c = λ ws budget whole x. let a = c.args in
    operation-second a.s a.base a.n x a.place c.requires.0 c.if-n-ne2.false _ (sym c.value_at.ensures ∙ c.in-Number.is)
    (λ w q. c.in_default-value_at.not-Number w (c.value_at-2.ensures ∙ q))

pub push-requires : goal.push-requires
push-requires c = let a = c.args in let q = c.requires.1 in (
  q.0,
  (
    q.1.0,
    q.1.1,
    made-value a.s a.base a.n q.1.2 a.place c.requires.0 c.if-n-ne2.false _ (sym c.value_at.ensures ∙ c.in-Number.is)
        _ (sym c.value_at-2.ensures ∙ c.in-Number-value_at.is) _ c.operate.ensures _ c.in_ok-v.was,
  ),
)

pub returns : goal.returns
returns c = λ ws budget whole x. let a = c.args in
    let y = c.push.ensures ws budget whole (made-value a.s a.base a.n x a.place c.requires.0 c.if-n-ne2.false _ (sym c.value_at.ensures ∙ c.in-Number.is)
    _ (sym c.value_at-2.ensures ∙ c.in-Number-value_at.is) _ c.operate.ensures _ c.in_ok-v.was) in
    (y.0, omega (arith, y.1, x.framed))

pub returns-in_err-v : goal.returns-in_err-v
returns-in_err-v c = λ ws budget whole x. let a = c.args in
    let r = err_from_is_err_and c.from_residual.result c.from_residual.ensures.1 in rw (r.1, r.2)
    (made-ground a.s a.base a.n x a.place c.requires.0 c.if-n-ne2.false _ (sym c.value_at.ensures ∙ c.in-Number.is)
    _ (sym c.value_at-2.ensures ∙ c.in-Number-value_at.is) _ c.operate.ensures _ c.in_err-v.was)
