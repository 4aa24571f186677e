-- `dispatch::form`: one law for each form.
use borrow.Author.Rules.{rules}
use Rattle.words.specs.Limits.{macros_most}
use Rattle.std.proofs.Common.{subst}
use Rattle.std.proofs.lemmas.Result.{err_from_is_err_and}
use Rattle.turns.specs.Turns.{Ends}
use Rattle.turns.specs.DispatchLaws.{quote-turned, if-turned, lambda-turned, let-syntax-turned, letrec-syntax-turned, auxiliary-turned}
use Rattle.turns.proofs.dispatch.form.Goals as goal

pub returns-then-k-eq-QUOTE : goal.returns-then-k-eq-QUOTE
returns-then-k-eq-QUOTE c =
    let a = c.args in
    λ operations fuel ready. subst (Ends _ _ _ _ _ _ _) c.in_ok-quoted.was
    (quote-turned macros_most a.work.now a.core.now a.macros.now a.list.node a.list.tail a.list.wrap a.k a.reached c.requires.0 _ _ c.if-k-eq-QUOTE.true c.quoted.ensures operations fuel ready)

pub returns-in_err-quoted : goal.returns-in_err-quoted
returns-in_err-quoted c =
    let a = c.args in
    let p = err_from_is_err_and c.from_residual.result c.from_residual.ensures.1 in
    λ operations fuel ready. rw (p.1, p.2) (subst (Ends _ _ _ _ _ _ _) c.in_err-quoted.was
    (quote-turned macros_most a.work.now a.core.now a.macros.now a.list.node a.list.tail a.list.wrap a.k a.reached c.requires.0 _ _ c.if-k-eq-QUOTE.true c.quoted.ensures operations fuel ready))

pub returns-then-k-eq-IF : goal.returns-then-k-eq-IF
returns-then-k-eq-IF c = let a = c.args in
    if-turned macros_most a.work.now a.core.now a.macros.now a.list.node a.list.tail a.list.wrap a.k a.reached c.requires.0 c.requires.1.binds.placed c.condition.new.core c.condition.result c.if-k-eq-IF.true c.condition.ensures

pub returns-then-k-eq-LAMBDA : goal.returns-then-k-eq-LAMBDA
returns-then-k-eq-LAMBDA c = let a = c.args in
    lambda-turned macros_most a.work.now a.core.now a.macros.now a.list.node a.list.tail a.list.wrap a.k a.reached c.requires.0 c.requires.1.binds.placed c.lambda.new.work c.lambda.auto.work c.lambda.new.core c.lambda.result c.if-k-eq-LAMBDA.true c.lambda.ensures

pub returns-then-k-eq-LET_SYNTAX : goal.returns-then-k-eq-LET_SYNTAX
returns-then-k-eq-LET_SYNTAX c = let a = c.args in
    let-syntax-turned macros_most a.work.now a.core.now a.macros.now a.list.node a.list.tail a.list.wrap a.k a.reached c.requires.0 c.requires.1.binds.placed c.let_syntax.new.work c.let_syntax.auto.work c.let_syntax.new.macros c.let_syntax.auto.macros c.let_syntax.result c.if-k-eq-LET_SYNTAX.true c.let_syntax.ensures

pub returns-then-k-eq-LETREC_SYNTAX : goal.returns-then-k-eq-LETREC_SYNTAX
returns-then-k-eq-LETREC_SYNTAX c = let a = c.args in
    letrec-syntax-turned macros_most a.work.now a.core.now a.macros.now a.list.node a.list.tail a.list.wrap a.k a.reached c.requires.0 c.requires.1.binds.placed c.let_syntax-then-k-eq-LETREC_SYNTAX.new.work c.let_syntax-then-k-eq-LETREC_SYNTAX.auto.work c.let_syntax-then-k-eq-LETREC_SYNTAX.new.macros c.let_syntax-then-k-eq-LETREC_SYNTAX.auto.macros c.let_syntax-then-k-eq-LETREC_SYNTAX.result c.if-k-eq-LETREC_SYNTAX.true c.let_syntax-then-k-eq-LETREC_SYNTAX.ensures

pub returns : goal.returns
returns c = let a = c.args in
    auxiliary-turned macros_most a.work.now a.core.now a.macros.now a.list.node a.list.tail a.list.wrap a.k a.reached c.requires.0 _ c.if-k-eq-QUOTE.false c.if-k-eq-IF.false c.if-k-eq-LAMBDA.false c.if-k-eq-LET_SYNTAX.false c.if-k-eq-LETREC_SYNTAX.false c.refused.ensures
