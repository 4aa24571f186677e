-- What a call of expansion left, run: from its promise and from `runs-as-term`.
use Rattle.std.specs.Prelude.{◌≡◌, refl, List, ℕ, length, take}
use Rattle.std.proofs.Common.{sym, ap, ◌∙◌}
use Rattle.expansion.specs.Run as X
use Rattle.expansion.specs.Run.{core_of}
use Rattle.evaluation.specs.Run as R
use Rattle.expansion.proofs.CoreTermLaws.{run-term}
use Rattle.recipe_runs.specs.RecipeRun.{after_expansion, recipe_run}
use Rattle.recipe_runs.specs.Statement.{RunsAsTerm, Never19}
use Rattle.recipe_runs.specs.Claim.{runs-as-term, never-19}
use Rattle.program_laws.specs.RunLaws.{ran-accepted, ran-refused, term-front}
use Rattle.run_calls.specs.Statement.{RunsAs, RecipeRuns, RecipeRefused}

pub recipe-runs : RecipeRuns
unfolding RecipeRuns RunsAsTerm Never19 recipe_run after_expansion
recipe-runs items fuel work work' core core' answer s x h budget table =
    let r = X.run items fuel (length work) (length core) in
    let o = ran-accepted items fuel work work' core core' answer s x h in
    let f = term-front items fuel work work' core core' answer s x h x.length refl in
    let c = run-term items fuel (length work) (length core) o in
    let w : R.run (take x.length core') budget table ≡ R.run (core_of r) budget table = ap (λ (z : List ℕ). R.run z budget table) f.1 in
    let e : R.run (take x.length core') budget table ≡ recipe_run items fuel (length work) (length core) budget table = rw o w in
    record {
      term = c.term;
      kept = c.given;
      inside = f.0;
      as-recipe = e;
      as-term = e ∙ runs-as-term items fuel (length work) (length core) c.term c.given budget table;
      never-19 = λ k. never-19 items fuel (length work) (length core) budget table (sym e ∙ k);
    }

pub recipe-refused : RecipeRefused
unfolding RecipeRefused recipe_run after_expansion
recipe-refused items fuel work work' core core' answer s x h budget table = rw (ran-refused items fuel work work' core core' answer s x h).1
