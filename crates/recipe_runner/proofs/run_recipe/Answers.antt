-- By the answer of expansion: what running its term gives, or its refusal.
use mathlib.Core.Path.{sym}
use lib.Seq.{length-take-le}
use Rattle.std.specs.Prelude.{Ok, Err}
use Rattle.std.proofs.lemmas.Result.{err_from_is_err_and}
use Rattle.recipe_runner.specs.ServiceLaws.{term-inside, recipe-ran, recipe-stopped}
use Rattle.recipe_runner.proofs.run_recipe.Goals as goal

pub slice_bounds-run-end : goal.slice_bounds-run-end
slice_bounds-run-end c = term-inside _ _ _ _ _ _ _ c.expand.ensures _ c.in_ok-expanded.was

pub slice_bounds-run-end-2 : goal.slice_bounds-run-end-2
slice_bounds-run-end-2 c = sym (length-take-le _ _ (term-inside _ _ _ _ _ _ _ c.expand.ensures _ c.in_ok-expanded.was))

pub returns-in_err-expanded : goal.returns-in_err-expanded
returns-in_err-expanded c =
    let p = err_from_is_err_and c.from_residual.result c.from_residual.ensures.1 in
    rw (p.1, p.2) (recipe-stopped _ _ _ _ _ _ _ c.expand.ensures _ c.in_err-expanded.was _ _)

pub returns-in_err-outcome : goal.returns-in_err-outcome
returns-in_err-outcome c =
    let p = err_from_is_err_and c.from_residual-in_err-outcome.result c.from_residual-in_err-outcome.ensures.1 in
    rw (p.1, p.2) (recipe-ran _ _ _ _ _ _ _ c.expand.ensures _ c.in_ok-expanded.was _ _ _ (Err _) c.in_err-outcome.ensures)

pub returns : goal.returns
returns c = recipe-ran _ _ _ _ _ _ _ c.expand.ensures _ c.in_ok-expanded.was _ _ _ (Ok _) c.in_ok-outcome.ensures
