use Rattle.std.proofs.Common.{ap, ◌∙◌, Err}
use Rattle.recipe_runner.specs.Service.{told_of}
use Rattle.grebetallboy.specs.CallLaws.{recipe-told}
use Rattle.grebetallboy.proofs.grebetallboy_run_recipe.Goals as goal

pub returns-in-Ok : goal.returns-in-Ok
unfolding told_of
returns-in-Ok c = recipe-told _ _ c.run_recipe.ensures c.in-Ok.is c.tell_running.ensures

pub returns-in-Err-Run : goal.returns-in-Err-Run
unfolding told_of
returns-in-Err-Run c = recipe-told _ _ c.run_recipe.ensures (c.in-Err-Run.is ∙ ap (λ x. Err x) c.in-Err-Run.field-0-is) c.tell_running-in-Err-Run.ensures

pub returns-in-Err-Expansion : goal.returns-in-Err-Expansion
unfolding told_of
returns-in-Err-Expansion c = recipe-told _ _ c.run_recipe.ensures (c.in-Err-Expansion.is ∙ ap (λ x. Err x) c.in-Err-Expansion.field-0-is) (c.number.ensures, c.tell.ensures)
