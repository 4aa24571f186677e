use Rattle.std.proofs.Common.{refl, sym, ◌∙◌}
use native.Mathlib.Omega.{arith}
use borrow.Author.Tests.{ltb-true, ltb-false}
use Rattle.supplier.specs.FormalsLaws.{taking-start, taking-in, taking-pair, taking-head-in, taking-none, taking-twice, taking-next, taking-many, taking-end, formals-low, passing-other, passing-not}
use Rattle.supplier.proofs.grammar.formals.Goals as goal

pub loop-i-init : goal.loop-i-init
loop-i-init c = taking-start c.args.items.now c.args.i c.args.scope.now c.args.top c.args.first c.requires.0

pub kind-requires : goal.kind-requires
kind-requires c = taking-in _ _ _ _ _ _ _ _ c.loop-i.invariant

pub shape_of-scope-then-n-eq-FORMALS : goal.shape_of-scope-then-n-eq-FORMALS
shape_of-scope-then-n-eq-FORMALS c = c.loop-i.invariant.sized

pub returns-then-n-eq-FORMALS : goal.returns-then-n-eq-FORMALS
returns-then-n-eq-FORMALS c = record { formals = taking-many _ _ _ _ _ _ _ _ c.loop-i.invariant (sym c.kind.ensures ∙ c.loop-i-test.true) c.if-n-eq-FORMALS.true; kept = c.loop-i.invariant.kept }

pub head-at-requires : goal.head-at-requires
head-at-requires c = taking-in _ _ _ _ _ _ _ _ c.loop-i.invariant

pub kind-requires-in-loop-i : goal.kind-requires-in-loop-i
kind-requires-in-loop-i c = taking-head-in _ _ _ _ _ _ _ _ c.loop-i.invariant (sym c.kind.ensures ∙ c.loop-i-test.true) _ c.head-at.ensures

pub shape_of-scope-then-kind-ne-NAME : goal.shape_of-scope-then-kind-ne-NAME
shape_of-scope-then-kind-ne-NAME c = c.loop-i.invariant.sized

pub returns-then-kind-ne-NAME : goal.returns-then-kind-ne-NAME
returns-then-kind-ne-NAME c = record { formals = passing-other _ _ _ c.loop-i.invariant.passed c.loop-i.invariant.passing _ (sym c.kind.ensures ∙ c.loop-i-test.true) c.head-at.ensures (λ e. c.if-kind-ne-NAME.true (c.kind-in-loop-i.ensures ∙ e)); kept = c.loop-i.invariant.kept }

pub head-name-requires : goal.head-name-requires
head-name-requires c = taking-head-in _ _ _ _ _ _ _ _ c.loop-i.invariant (sym c.kind.ensures ∙ c.loop-i-test.true) _ c.head-at.ensures

pub shape_of-scope-then-name-lt3 : goal.shape_of-scope-then-name-lt3
shape_of-scope-then-name-lt3 c = c.loop-i.invariant.sized

pub returns-then-name-lt3 : goal.returns-then-name-lt3
returns-then-name-lt3 c = record { formals = taking-none _ _ _ _ _ _ _ _ c.loop-i.invariant (sym c.kind.ensures ∙ c.loop-i-test.true) _ c.head-at.ensures (sym c.kind-in-loop-i.ensures ∙ c.if-kind-ne-NAME.false) _ c.head-name.ensures (formals-low c.loop-i.invariant.passed _ c.if-name-lt3.true); kept = c.loop-i.invariant.kept }

pub overflow_add-top : goal.overflow_add-top
overflow_add-top c = omega (arith, c.loop-i.invariant.few, c.requires.1, c.well_formed.1)

pub is_bound-requires : goal.is_bound-requires
is_bound-requires c = omega (arith, c.loop-i.invariant.few, c.loop-i.invariant.sized, c.requires.1)

pub shape_of-scope-then-is_bound : goal.shape_of-scope-then-is_bound
shape_of-scope-then-is_bound c = c.loop-i.invariant.sized

pub returns-then-is_bound : goal.returns-then-is_bound
returns-then-is_bound c = record { formals = taking-twice _ _ _ _ _ _ _ _ c.loop-i.invariant (sym c.kind.ensures ∙ c.loop-i-test.true) _ c.head-at.ensures (sym c.kind-in-loop-i.ensures ∙ c.if-kind-ne-NAME.false) _ c.head-name.ensures (ltb-true _ _ (sym c.is_bound.ensures ∙ c.if-is_bound.true)); kept = c.loop-i.invariant.kept }

pub overflow_add-scope : goal.overflow_add-scope
overflow_add-scope c = omega (arith, c.loop-i.invariant.few, c.ranges)

pub overflow_add-top-in-loop-i : goal.overflow_add-top-in-loop-i
overflow_add-top-in-loop-i c = omega (arith, c.loop-i.invariant.few, c.requires.1, c.well_formed.1)

pub bounds-scope-top : goal.bounds-scope-top
bounds-scope-top c = omega (arith, c.loop-i.invariant.few, c.if-n-eq-FORMALS.false, c.loop-i.invariant.sized, c.requires.1)

pub overflow_add-n : goal.overflow_add-n
overflow_add-n c = omega (arith, c.loop-i.invariant.few)

pub tail-j-requires : goal.tail-j-requires
tail-j-requires c = taking-in _ _ _ _ _ _ _ _ c.loop-i.invariant

pub loop-i-smaller : goal.loop-i-smaller
loop-i-smaller c = omega (arith, c.tail-j.ensures, (taking-pair _ _ _ _ _ _ _ _ c.loop-i.invariant (sym c.kind.ensures ∙ c.loop-i-test.true)).pair.tail_is, taking-in _ _ _ _ _ _ _ _ c.loop-i.invariant)

pub loop-i-preserved : goal.loop-i-preserved
loop-i-preserved c = taking-next _ _ _ _ _ _ _ _ c.loop-i.invariant (sym c.kind.ensures ∙ c.loop-i-test.true) _ c.head-at.ensures (sym c.kind-in-loop-i.ensures ∙ c.if-kind-ne-NAME.false) _ c.head-name.ensures c.if-name-lt3.false (ltb-false _ _ (sym c.is_bound.ensures ∙ c.if-is_bound.false)) c.if-n-eq-FORMALS.false c.requires.1 _ c.tail-j.ensures _ refl

pub kind-requires-2 : goal.kind-requires-2
kind-requires-2 c = taking-in _ _ _ _ _ _ _ _ c.loop-i.invariant

pub shape_of-scope-then-kind-ne-EMPTY : goal.shape_of-scope-then-kind-ne-EMPTY
shape_of-scope-then-kind-ne-EMPTY c = c.loop-i.invariant.sized

pub returns-then-kind-ne-EMPTY : goal.returns-then-kind-ne-EMPTY
returns-then-kind-ne-EMPTY c = record { formals = passing-not _ _ _ c.loop-i.invariant.passed c.loop-i.invariant.passing (λ e. c.loop-i-test.false (c.kind.ensures ∙ e)) (λ e. c.if-kind-ne-EMPTY.true (c.kind-2.ensures ∙ e)); kept = c.loop-i.invariant.kept }

pub shape_of-scope : goal.shape_of-scope
shape_of-scope c = c.loop-i.invariant.sized

pub returns : goal.returns
returns c = record { formals = taking-end _ _ _ _ _ _ _ _ c.loop-i.invariant (sym c.kind-2.ensures ∙ c.if-kind-ne-EMPTY.false); kept = c.loop-i.invariant.kept }
