-- `base_forms::lambda`: its shape, its names, then its body.
use borrow.Author.Rules.{rules}
use mathlib.Core.Path.{sym, ◌∙◌}
use borrow.Author.Tests.{not-true, not-false}
use Rattle.arena.specs.Arena.{tree_at}
use Rattle.turns.specs.LambdaLaws.{lambda-proper, lambda-unshaped, lambda-alike, lambda-left}
use Rattle.turns.proofs.base_forms.lambda.Goals as goal

pub returns-then-not-is_lambda : goal.returns-then-not-is_lambda
returns-then-not-is_lambda c = let a = c.args in
    lambda-unshaped (tree_at a.work.now a.form.node a.form.wrap) a.reached _ (sym (c.is_lambda.ensures a.form.wrap) ∙ not-true _ c.if-not-is_lambda.true-raw) c.refused.ensures

pub names_distinct-requires : goal.names_distinct-requires
names_distinct-requires c = let a = c.args in ((sym (c.is_lambda.ensures a.form.wrap) ∙ not-false _ c.if-not-is_lambda.false-raw), lambda-proper a.work.now a.core.now a.form.node a.form.wrap a.reached c.requires (sym (c.is_lambda.ensures a.form.wrap) ∙ not-false _ c.if-not-is_lambda.false-raw))

pub returns-then-not-names_distinct : goal.returns-then-not-names_distinct
returns-then-not-names_distinct c = let a = c.args in
    lambda-alike (tree_at a.work.now a.form.node a.form.wrap) a.reached _ (sym (c.is_lambda.ensures a.form.wrap) ∙ not-false _ c.if-not-is_lambda.false-raw) (sym c.names_distinct.ensures ∙ not-true _ c.if-not-names_distinct.true-raw) c.refused-then-not-names_distinct.ensures

pub lambda_body-requires : goal.lambda_body-requires
lambda_body-requires c = let a = c.args in (c.requires, sym (c.is_lambda.ensures a.form.wrap) ∙ not-false _ c.if-not-is_lambda.false-raw)

pub returns : goal.returns
returns c = let a = c.args in
    lambda-left (tree_at a.work.now a.form.node a.form.wrap) a.reached a.work.now c.lambda_body.new.work a.core.now c.lambda_body.new.core c.lambda_body.result (sym (c.is_lambda.ensures a.form.wrap) ∙ not-false _ c.if-not-is_lambda.false-raw) (sym c.names_distinct.ensures ∙ not-false _ c.if-not-names_distinct.false-raw) c.lambda_body.ensures
