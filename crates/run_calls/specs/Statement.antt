-- What a call of the expansion service left, run (request L11). Nothing is proved here.
use Rattle.std.specs.Prelude.{◌≡◌, List, ℕ, ◌≤◌, length, take, Ok, Err}
use Rattle.words.specs.Code.Ground.{number_of}
use Rattle.std.proofs.Math.Option.{some}
use Rattle.recipe.specs.Name.{Name}
use Rattle.core_term.specs.Term.{Term}
use Rattle.expansion.specs.Run as X
use Rattle.expansion.specs.Run.{told}
use Rattle.turns.specs.declared.answers.Refused.{Refused}
use Rattle.expander.specs.declared.Expanded.{Expanded}
use Rattle.expander.specs.Service.{Expansion, Served}
use Rattle.evaluation.specs.Run as R
use Rattle.recipe_runs.specs.RecipeRun.{recipe_run, term_run}

-- the words that an accepted call says it left are in the core table; running them is running the recipe, as the term that the definition's
-- run of these items keeps; and 19 does not come
pub record RunsAs (items : List ℕ) (fuel work core : ℕ) (budget table size : ℕ) (core' : List ℕ) : Type 0 where
  pub term : Term Name
  pub kept : (X.run items fuel work core).term ≡ some term
  pub inside : size ≤ length core'
  pub as-recipe : R.run (take size core') budget table ≡ recipe_run items fuel work core budget table
  pub as-term : R.run (take size core') budget table ≡ term_run (told term) budget table
  pub never-19 : R.run (take size core') budget table ≡ R.unfit 19 → ⊥

-- from the promise alone
unfoldable pub RecipeRuns : Type 0
RecipeRuns =
    -- a call of expansion, by what it is lent, leaves and answers
    (items : List ℕ) (fuel : ℕ) (work work' core core' : List ℕ) (answer : Expansion)
    → Served items fuel work work' core core' answer
    -- it is accepted, with a term of so many words
    → (x : Expanded)
    → answer ≡ Ok x
    -- any budget and any length of the runner's table
    → (budget table : ℕ)
    → RunsAs items fuel (length work) (length core) budget table x.length core'

-- and where it is refused, so is running the recipe, on that ground
unfoldable pub RecipeRefused : Type 0
RecipeRefused =
    (items : List ℕ) (fuel : ℕ) (work work' core core' : List ℕ) (answer : Expansion)
    → Served items fuel work work' core core' answer
    → (x : Refused)
    → answer ≡ Err x
    → (budget table : ℕ)
    → recipe_run items fuel (length work) (length core) budget table ≡ R.unfit (number_of x.ground)
