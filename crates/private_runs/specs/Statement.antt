-- Demand 3 where core terms are run (request L11): a recipe and the recipe with a private name renamed, each expanded and run, have the same
-- outcome: result, units and refusal, the place of a quoted datum's first word too. Name words do not count. Nothing is proved here.
use Rattle.std.specs.Prelude.{◌≡◌, true, List, ℕ}
use Rattle.words.specs.Lists.{all_of}
use Rattle.recipe.specs.Tree.{Tree}
use Rattle.expansion.specs.Run as X
use Rattle.private_names.specs.Statement.{Choice, renamed, hypotheses}
use Rattle.private_names.specs.Demand3.{Whenever, second}
use Rattle.recipe_runs.specs.RecipeRun.{recipe_run}

-- whatever the recipe, fuel, lengths of lent tables, and budget, with demand 3's hypotheses as a test
unfoldable pub PrivateRuns : Type 0
PrivateRuns =
    (ws : List ℕ) (fuel work core : ℕ) (c : Choice) (budget table : ℕ)
    → all_of (λ h. h) (hypotheses ws c (X.run ws fuel work core).events) ≡ true
    → recipe_run (renamed ws c) fuel work core budget table ≡ recipe_run ws fuel work core budget table

-- and phrase by phrase (Demand3): "run both recipes", each with any one budget and length of the runner's table
abbrev pub SameRuns : (ws : List ℕ) (fuel work core : ℕ) (template : Tree) (old new : ℕ) → Type 0
SameRuns ws fuel work core template old new =
    (budget table : ℕ) → recipe_run (second ws template old new) fuel work core budget table ≡ recipe_run ws fuel work core budget table

unfoldable pub PrivateRunsSaid : Type 0
PrivateRunsSaid = Whenever SameRuns
