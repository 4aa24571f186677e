-- `names::compare`: the first name in hand, the second behind it.
use Rattle.std.proofs.Common.{arith}
use Rattle.resolution.specs.HandLaws.{count_most}
use Rattle.resolution.specs.NameLaws.{differ-numbers, differ-bindings, differ-counts, same-marks}
use Rattle.resolution.proofs.names.compare.Goals as goal

pub returns-then-number_of : goal.returns-then-number_of
returns-then-number_of c =
    let a = c.args in
    differ-numbers a.work.now a.a a.v a.b a.w _ _ c.number_of.ensures c.number_of-2.ensures c.if-number_of.true

pub returns-in_err-y : goal.returns-in_err-y
returns-in_err-y c =
    rw c.from_residual-in_err-y.ensures (omega (arith, c.in_err-y.ensures, count_most _ 0 _ c.in_ok-x.ensures.hand.descends))

pub returns-then-x-y : goal.returns-then-x-y
returns-then-x-y c =
    let a = c.args in
    differ-bindings a.work.now a.a a.v a.b a.w _ _ c.number_of.ensures c.number_of-2.ensures _ _ _ _ _ _ _ c.in_ok-x.ensures c.in_ok-y.ensures c.if-x-y.true

pub returns-then-x-y-2 : goal.returns-then-x-y-2
returns-then-x-y-2 c =
    let a = c.args in
    differ-counts a.work.now a.a a.v a.b a.w _ _ c.number_of.ensures c.number_of-2.ensures _ _ _ _ _ _ _ c.in_ok-x.ensures c.in_ok-y.ensures c.if-x-y-2.true

pub returns : goal.returns
returns c =
    let a = c.args in
    same-marks a.work.now a.a a.v a.b a.w _ _ c.number_of.ensures c.number_of-2.ensures _ _ _ _ _ _ _ c.in_ok-x.ensures c.in_ok-y.ensures c.if-number_of.false c.if-x-y.false c.if-x-y-2.false _ c.equal_marks.ensures
