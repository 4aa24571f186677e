-- The three numbers of an answer in a lent table, or more; a table too short for them is left alone.
use Rattle.std.specs.Prelude.{◌≡◌, cond, List, ◌∷◌, ◌++◌, ℕ, ltb, length, drop}
use Rattle.reading.specs.Read as R
use Rattle.expansion.specs.Run as X
use Rattle.expander.specs.Service as E
use Rattle.comparison.specs.Compare.{Verdict, yes, no, refused_on}
use Rattle.evaluation.specs.Run as Eval
use Rattle.recipe_runs.specs.RecipeRun.{recipe_run}
use Rattle.runner.specs.Service as M
use Rattle.recipe_runner.specs.Service as S

unfoldable pub told : (a b c : ℕ) → List ℕ → List ℕ
told a b c counts = cond (ltb (length counts) 3) counts (a ∷ b ∷ c ∷ drop 3 counts)

-- any numbers
unfoldable pub told_numbers : List ℕ → List ℕ → List ℕ
told_numbers ns counts = cond (ltb (length counts) (length ns)) counts (ns ++ drop (length ns) counts)

-- reading's: items, names
unfoldable pub tells_read : R.Numbers → List ℕ → List ℕ
tells_read n counts = told n.items n.names 0 counts

-- expansion's: steps, sum, length
unfoldable pub tells_run : E.Numbers → List ℕ → List ℕ
tells_run n counts = told n.steps n.sum n.length counts

-- comparing's: 1 for yes
unfoldable pub tells_verdict : Verdict → List ℕ → List ℕ
tells_verdict yes counts = told 1 0 0 counts
tells_verdict no counts = told 0 0 0 counts
tells_verdict (refused_on g) counts = told 0 0 0 counts

-- comparing's ground, 0 for yes and no
unfoldable pub verdict_ground : Verdict → ℕ
verdict_ground yes = 0
verdict_ground no = 0
verdict_ground (refused_on g) = g

-- running's: ground, the lent table, and what the result is, its two words, the units
abbrev pub RunCalled : (words : List ℕ) (budget : ℕ) (table table' counts counts' : List ℕ) (r : ℕ) → Type 0
RunCalled words budget table table' counts counts' r =
    (r ≡ (M.run_numbers (Eval.run words budget (length table))).ground_number)
    × (table' ≡ Eval.table_after (Eval.run words budget (length table)) table)
    × (counts' ≡ told_numbers (S.of_running (M.run_numbers (Eval.run words budget (length table)))) counts)

-- a recipe's: ground, the three lent tables, the four numbers
abbrev pub RecipeRunCalled : (items : List ℕ) (fuel : ℕ) (work work' core core' : List ℕ) (budget : ℕ) (table table' counts counts' : List ℕ) (r : ℕ) → Type 0
RecipeRunCalled items fuel work work' core core' budget table table' counts counts' r =
    let x = X.run items fuel (length work) (length core) in
    let o = recipe_run items fuel (length work) (length core) budget (length table) in
    (r ≡ (S.recipe_told x o).ground_number)
    × (work' ≡ E.work_after x work)
    × (core' ≡ E.core_after x core)
    × (table' ≡ Eval.table_after o table)
    × (counts' ≡ told_numbers (S.recipe_told x o).numbers counts)
