-- The promise of running a recipe: its answer is that of `recipe_run`, and every word of the three lent tables is the definition's, for every
-- item table, fuel, budget and lent tables.
use Rattle.std.specs.Prelude.{◌≡◌, List, [], ◌∷◌, ℕ, ℤ, length, Ok, Err}
use Rattle.std.specs.Prelude as P
use Rattle.words.specs.declared.ground.Ground.{Ground}
use Rattle.words.specs.Code.Ground.{number_of}
use Rattle.expansion.specs.Run as X
use Rattle.expander.specs.Service as E
use Rattle.evaluation.specs.Run.{Result, Outcome, table_after}
use Rattle.recipe_runs.specs.RecipeRun.{recipe_run}
use Rattle.runner.specs.Service as R
use Rattle.runner.specs.declared.Outcome as code
use Rattle.recipe_runner.specs.declared.RecipeError.{RecipeError}
use Rattle.recipe_runner.specs.declared.RecipeError.TheVariants.{Expansion, Run}

-- ground (accepted is 0), and four numbers
pub record Told : Type 0 where
  pub ground_number : ℕ
  pub numbers : List ℕ

-- of running: what the result is, its two words, the units
abbrev pub of_running : R.Numbers → List ℕ
of_running n = n.kind ∷ n.first ∷ n.second ∷ n.units ∷ []

-- of an expansion that was refused: its steps and their sum
abbrev pub of_expansion : E.Numbers → List ℕ
of_expansion n = n.steps ∷ n.sum ∷ 0 ∷ 0 ∷ []

-- how a call ends
abbrev pub RecipeRunning : Type 0
RecipeRunning = P.Result code.Outcome RecipeError

-- as the run of the term ended
abbrev pub of_run : P.Result code.Outcome Ground → RecipeRunning
of_run (Ok o) = Ok o
of_run (Err g) = Err (Run g)

unfoldable pub told_of : RecipeRunning → Told
told_of (Ok o) = record { ground_number = (R.numbers_of (Ok o)).ground_number; numbers = of_running (R.numbers_of (Ok o)) }
told_of (Err (Run g)) = record { ground_number = (R.numbers_of (Err g)).ground_number; numbers = of_running (R.numbers_of (Err g)) }
told_of (Err (Expansion x)) = record { ground_number = number_of x.ground; numbers = x.steps ∷ x.sum ∷ 0 ∷ 0 ∷ [] }

unfoldable pub numbers_after : X.Outcome → E.Numbers → R.Numbers → List ℕ
numbers_after X.accepted e r = of_running r
numbers_after (X.refused_on stage g) e r = of_expansion e
numbers_after X.unfinished e r = of_expansion e

-- a recipe's run, by the run of its expansion and by its outcome
unfoldable pub recipe_told : X.Run → Outcome (Result ℤ) → Told
recipe_told x o = record { ground_number = (R.run_numbers o).ground_number; numbers = numbers_after x.outcome (E.run_numbers x) (R.run_numbers o) }

-- what a call answers and leaves
pub record RecipeRan (items : List ℕ) (fuel : ℕ) (work work' core core' : List ℕ) (budget : ℕ) (table table' : List ℕ) (r : RecipeRunning) : Type 0 where
  pub told : told_of r ≡ recipe_told (X.run items fuel (length work) (length core)) (recipe_run items fuel (length work) (length core) budget (length table))
  pub core-after : core' ≡ E.core_after (X.run items fuel (length work) (length core)) core
  pub work-after : work' ≡ E.work_after (X.run items fuel (length work) (length core)) work
  pub table-after : table' ≡ table_after (recipe_run items fuel (length work) (length core) budget (length table)) table
