-- By the answer's numbers the run is accepted or refused, and the core table begins with the term's words.
use Rattle.std.proofs.Common.{sym, refl, length-take-le}
use Rattle.run_recipe.proofs.value.expanded.Goals as goal
use Rattle.program_laws.specs.RunLaws.{term-front}
use Rattle.run_recipe.specs.ValueLaws.{expanded-run, expanded-refused}

pub slice_bounds-run-end : goal.slice_bounds-run-end
slice_bounds-run-end c = (term-front _ _ _ _ _ _ _ c.expand.ensures _ c.in-Ok.is _ refl).0

pub slice_bounds-run-end-in-Ok : goal.slice_bounds-run-end-in-Ok
slice_bounds-run-end-in-Ok c = sym (length-take-le _ _ (term-front _ _ _ _ _ _ _ c.expand.ensures _ c.in-Ok.is _ refl).0)

pub returns-in-Ok : goal.returns-in-Ok
returns-in-Ok c = expanded-run _ _ _ _ _ _ _ c.expand.ensures _ _ c.in-Ok.is _ refl c.expand.auto.work _ _ c.run.ensures

pub returns-in-Err : goal.returns-in-Err
returns-in-Err c = expanded-refused _ _ _ _ _ _ _ c.expand.ensures _ _ c.in-Err.is
