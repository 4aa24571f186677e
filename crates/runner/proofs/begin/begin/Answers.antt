-- A node's unit, then by its node.
use Rattle.runner.specs.Here.{here-two}
use native.Mathlib.Omega.{arith}
use Rattle.runner.specs.BeginLaws.{spent, begin-out, begin-opened, begin-node, spent-variable, spent-operation, spent-integer, spent-boolean, spent-decimal, spent-name, spent-list, spent-lambda}
use Rattle.std.proofs.Common.{ap, ◌∙◌}
use Rattle.std.specs.Prelude.{Some}
use Rattle.runner.proofs.begin.begin.Goals as goal

pub returns-then-s-budget : goal.returns-then-s-budget
returns-then-s-budget c = λ whole b. begin-out c.args.s c.args.at c.args.environment b c.if-s-budget.true

pub offset_bounds-words-at : goal.offset_bounds-words-at
offset_bounds-words-at c = record { fits = omega (arith, here-two _ c.requires.1.1.here, c.well_formed.0) }

pub slice_bounds-opened-count : goal.slice_bounds-opened-count
slice_bounds-opened-count c = omega (arith, here-two _ c.requires.1.1.here)

pub slice_bounds-opened-start : goal.slice_bounds-opened-start
slice_bounds-opened-start c = omega (arith, here-two _ c.requires.1.1.here)

pub unwrap-node-requires : goal.unwrap-node-requires
unwrap-node-requires c = begin-opened c.args.s c.args.at c.args.environment c.requires.1.1 _ c.opened.ensures

pub variable-requires : goal.variable-requires
variable-requires c = let a = c.args in
    let p = c.requires.1 in (
      a.words.now,
      (
        a.budget,
        p.0,
        spent-variable (spent a.s) a.at a.environment _
            (begin-node a.s a.at a.environment p.1 _ _ c.if-s-budget.false c.opened.ensures (c.unwrap-node.ensures ∙ ap Some c.in-Variable.is)),
      ),
    )

pub operation-requires : goal.operation-requires
operation-requires c = let a = c.args in
    let p = c.requires.1 in (
      a.words.now,
      (
        a.budget,
        p.0,
        spent-operation (spent a.s) a.at a.environment _
            (begin-node a.s a.at a.environment p.1 _ _ c.if-s-budget.false c.opened.ensures (c.unwrap-node.ensures ∙ ap Some c.in-Operation.is)),
      ),
    )

pub push-requires : goal.push-requires
push-requires c = let a = c.args in
    let p = c.requires.1 in (
      a.words.now,
      (
        a.budget,
        p.0,
        (spent-integer (spent a.s) a.at a.environment _
            (begin-node a.s a.at a.environment p.1 _ _ c.if-s-budget.false c.opened.ensures (c.unwrap-node.ensures ∙ ap Some c.in-Integer.is))),
      ),
    )

pub push-requires-in-Boolean : goal.push-requires-in-Boolean
push-requires-in-Boolean c = let a = c.args in
    let p = c.requires.1 in (
      a.words.now,
      (
        a.budget,
        p.0,
        (spent-boolean (spent a.s) a.at a.environment _
            (begin-node a.s a.at a.environment p.1 _ _ c.if-s-budget.false c.opened.ensures (c.unwrap-node.ensures ∙ ap Some c.in-Boolean.is))),
      ),
    )

pub push-requires-in-Name : goal.push-requires-in-Name
push-requires-in-Name c = let a = c.args in
    let p = c.requires.1 in (
      a.words.now,
      (
        a.budget,
        p.0,
        (spent-name (spent a.s) a.at a.environment _
            (begin-node a.s a.at a.environment p.1 _ _ c.if-s-budget.false c.opened.ensures (c.unwrap-node.ensures ∙ ap Some c.in-Name.is))),
      ),
    )

pub push-requires-in-List : goal.push-requires-in-List
push-requires-in-List c = let a = c.args in
    let p = c.requires.1 in (
      a.words.now,
      (
        a.budget,
        p.0,
        (spent-list (spent a.s) a.at a.environment _
            (begin-node a.s a.at a.environment p.1 _ _ c.if-s-budget.false c.opened.ensures (c.unwrap-node.ensures ∙ ap Some c.in-List.is))),
      ),
    )

pub test-requires : goal.test-requires
test-requires c = let a = c.args in
    let p = c.requires.1 in (
      c.requires.0,
      (
        a.budget,
        p.0,
        begin-node a.s a.at a.environment p.1 _ _ c.if-s-budget.false c.opened.ensures (c.unwrap-node.ensures ∙ ap Some c.in-If.is),
      ),
    )

pub push-requires-in-Lambda : goal.push-requires-in-Lambda
push-requires-in-Lambda c = let a = c.args in
    let p = c.requires.1 in (
      a.words.now,
      (
        a.budget,
        p.0,
        (spent-lambda (spent a.s) a.at a.environment _ _
            (begin-node a.s a.at a.environment p.1 _ _ c.if-s-budget.false c.opened.ensures (c.unwrap-node.ensures ∙ ap Some c.in-Lambda.is))),
      ),
    )

pub application-requires : goal.application-requires
application-requires c = let a = c.args in
    let p = c.requires.1 in (
      c.requires.0,
      (
        a.budget,
        p.0,
        begin-node a.s a.at a.environment p.1 _ _ c.if-s-budget.false c.opened.ensures (c.unwrap-node.ensures ∙ ap Some c.in-Application.is),
      ),
    )

pub returns-in-Variable : goal.returns-in-Variable
returns-in-Variable c = λ whole b. let a = c.args in
    let x = c.variable.ensures a.words.now a.budget whole
    (spent-variable (spent a.s) a.at a.environment _
    (begin-node a.s a.at a.environment b _ _ c.if-s-budget.false c.opened.ensures (c.unwrap-node.ensures ∙ ap Some c.in-Variable.is))) in
    (x.0, omega (arith, x.1, c.if-s-budget.false))

pub returns-in-Operation : goal.returns-in-Operation
returns-in-Operation c = λ whole b. let a = c.args in
    let x = c.operation.ensures a.words.now a.budget whole
    (spent-operation (spent a.s) a.at a.environment _
    (begin-node a.s a.at a.environment b _ _ c.if-s-budget.false c.opened.ensures (c.unwrap-node.ensures ∙ ap Some c.in-Operation.is))) in
    (x.0, omega (arith, x.1, c.if-s-budget.false))

pub returns-in-Integer : goal.returns-in-Integer
returns-in-Integer c = λ whole b. let a = c.args in
    let x = c.push.ensures a.words.now a.budget whole
    ((spent-integer (spent a.s) a.at a.environment _
    (begin-node a.s a.at a.environment b _ _ c.if-s-budget.false c.opened.ensures (c.unwrap-node.ensures ∙ ap Some c.in-Integer.is)))) in
    (x.0, omega (arith, x.1, c.if-s-budget.false))

pub returns-in-Boolean : goal.returns-in-Boolean
returns-in-Boolean c = λ whole b. let a = c.args in
    let x = c.push-in-Boolean.ensures a.words.now a.budget whole
    ((spent-boolean (spent a.s) a.at a.environment _
    (begin-node a.s a.at a.environment b _ _ c.if-s-budget.false c.opened.ensures (c.unwrap-node.ensures ∙ ap Some c.in-Boolean.is)))) in
    (x.0, omega (arith, x.1, c.if-s-budget.false))

pub returns-in-Decimal : goal.returns-in-Decimal
returns-in-Decimal c = λ whole b. let a = c.args in
    let x = spent-decimal (spent a.s) a.at a.environment _ _
    (begin-node a.s a.at a.environment b _ _ c.if-s-budget.false c.opened.ensures (c.unwrap-node.ensures ∙ ap Some c.in-Decimal.is)) in
    (x.0, omega (arith, c.if-s-budget.false))

pub returns-in-Name : goal.returns-in-Name
returns-in-Name c = λ whole b. let a = c.args in
    let x = c.push-in-Name.ensures a.words.now a.budget whole
    ((spent-name (spent a.s) a.at a.environment _
    (begin-node a.s a.at a.environment b _ _ c.if-s-budget.false c.opened.ensures (c.unwrap-node.ensures ∙ ap Some c.in-Name.is)))) in
    (x.0, omega (arith, x.1, c.if-s-budget.false))

pub returns-in-List : goal.returns-in-List
returns-in-List c = λ whole b. let a = c.args in
    let x = c.push-in-List.ensures a.words.now a.budget whole
    ((spent-list (spent a.s) a.at a.environment _
    (begin-node a.s a.at a.environment b _ _ c.if-s-budget.false c.opened.ensures (c.unwrap-node.ensures ∙ ap Some c.in-List.is)))) in
    (x.0, omega (arith, x.1, c.if-s-budget.false))

pub returns-in-If : goal.returns-in-If
returns-in-If c = λ whole b. let a = c.args in
    let x = c.test.ensures a.budget whole
    (begin-node a.s a.at a.environment b _ _ c.if-s-budget.false c.opened.ensures (c.unwrap-node.ensures ∙ ap Some c.in-If.is)) in
    (x.0, omega (arith, x.1, c.if-s-budget.false))

pub returns-in-Lambda : goal.returns-in-Lambda
returns-in-Lambda c = λ whole b. let a = c.args in
    let x = c.push-in-Lambda.ensures a.words.now a.budget whole
    ((spent-lambda (spent a.s) a.at a.environment _ _
    (begin-node a.s a.at a.environment b _ _ c.if-s-budget.false c.opened.ensures (c.unwrap-node.ensures ∙ ap Some c.in-Lambda.is)))) in
    (x.0, omega (arith, x.1, c.if-s-budget.false))

pub returns-in-Application : goal.returns-in-Application
returns-in-Application c = λ whole b. let a = c.args in
    let x = c.application.ensures a.budget whole
    (begin-node a.s a.at a.environment b _ _ c.if-s-budget.false c.opened.ensures (c.unwrap-node.ensures ∙ ap Some c.in-Application.is)) in
    (x.0, omega (arith, x.1, c.if-s-budget.false))
