-- Demand 3 where core terms are run, phrase by phrase, from the test that computes.
use Rattle.std.specs.Prelude.{◌≡◌, List, ℕ}
use Rattle.std.proofs.Common.{subst}
use Rattle.recipe.specs.Tree.{Tree}
use Rattle.private_names.specs.Statement.{renumber, renamed}
use Rattle.private_names_proof.specs.Said.{Tested, tested}
use Rattle.private_names_proof.proofs.SaidLaws.{whenever}
use Rattle.recipe_runs.specs.RecipeRun.{recipe_run}
use Rattle.private_runs.specs.Statement.{PrivateRuns, SameRuns, PrivateRunsSaid}
use Rattle.private_runs.proofs.Claim.{private-runs}

same_runs : (ws : List ℕ) (fuel work core : ℕ) (template : Tree) (old new : ℕ) → Tested ws fuel work core template old new → SameRuns ws fuel work core template old new
unfolding PrivateRuns renamed
same_runs ws fuel work core template old new (tested c h same) budget table =
    subst (λ D. recipe_run (renumber D c.new 0 ws) fuel work core budget table ≡ recipe_run ws fuel work core budget table) same
    (private-runs ws fuel work core c budget table h)

pub private-runs-said : PrivateRunsSaid
unfolding PrivateRunsSaid
private-runs-said = whenever SameRuns same_runs
