-- An expansion runs as its term (request L11), stated over the definition of a run. Nothing is proved here.
use Rattle.std.specs.Prelude.{◌≡◌, List, ℕ}
use Rattle.std.proofs.Math.Option.{some}
use Rattle.recipe.specs.Name.{Name}
use Rattle.core_term.specs.Term.{Term}
use Rattle.expansion.specs.Run as X
use Rattle.expansion.specs.Run.{told}
use Rattle.evaluation.specs.Run.{unfit}
use Rattle.recipe_runs.specs.RecipeRun.{recipe_run, term_run}

-- whatever the recipe, fuel, budget and lengths of lent tables, where expansion keeps a term the recipe is run as that term
unfoldable pub RunsAsTerm : Type 0
RunsAsTerm =
    (items : List ℕ) (fuel work core : ℕ) (t : Term Name)
    → (X.run items fuel work core).term ≡ some t
    → (budget table : ℕ)
    → recipe_run items fuel work core budget table ≡ term_run (told t) budget table

-- so no recipe gets 19
unfoldable pub Never19 : Type 0
Never19 = (items : List ℕ) (fuel work core budget table : ℕ) → recipe_run items fuel work core budget table ≡ unfit 19 → ⊥
