-- The promise of running a recipe, from those of expansion and of running.
use Rattle.std.specs.Prelude.{◌≡◌, refl, List, ℕ, ◌≤◌, ℤ, length, take, Ok, Err}
use Rattle.std.specs.Prelude as P
use Rattle.words.specs.Code.Ground.{number_of}
use Rattle.std.proofs.Common.{sym, ◌∙◌}
use Rattle.std.proofs.Math.Path.{ap}
use Rattle.expansion.specs.Run as X
use Rattle.turns.specs.declared.answers.Refused.{Refused}
use Rattle.expander.specs.declared.Expanded.{Expanded}
use Rattle.expander.specs.Service as E
use Rattle.expander.specs.Service.{Expansion, Served}
use Rattle.evaluation.specs.Run.{Result, Outcome, unfit, table_after}
use Rattle.program_laws.specs.RunLaws.{run-told, ran-accepted, ran-refused}
use Rattle.run_calls.specs.Statement.{RecipeRuns, RecipeRefused}
use Rattle.run_calls.specs.Calls.{recipe-runs, recipe-refused}
use Rattle.words.specs.declared.ground.Ground.{Ground}
use Rattle.runner.specs.declared.Outcome as code
use Rattle.runner.specs.Service as R
use Rattle.recipe_runner.specs.declared.RecipeError.TheVariants as A
use Rattle.recipe_runner.specs.Service.{of_run, Told, of_running, of_expansion, told_of, numbers_after, recipe_told, RecipeRan}

abbrev told-as : (ground_number : ℕ) → List ℕ → Told
told-as g ns = record { ground_number = g; numbers = ns }

-- as the run of the term ended
told-run : (r : P.Result code.Outcome Ground) → told_of (of_run r) ≡ told-as (R.numbers_of r).ground_number (of_running (R.numbers_of r))
unfolding told_of
told-run (Ok o) = refl
told-run (Err g) = refl

module _ (items : List ℕ) (fuel : ℕ) (work work' core core' : List ℕ) (answer : Expansion) (s : Served items fuel work work' core core' answer) where
  -- an accepted expansion: its words are inside the core table, and what they run as is told
  module _ (x : Expanded) (h : answer ≡ Ok x) where
    pub term-inside : x.length ≤ length core'
    unfolding RecipeRuns
    term-inside = (recipe-runs items fuel work work' core core' answer s x h 0 0).inside

    pub recipe-ran : (budget : ℕ) (table table' : List ℕ) (r : P.Result code.Outcome Ground) → R.Ran (take x.length core') budget table table' r
        → RecipeRan items fuel work work' core core' budget table table' (of_run r)
    unfolding RecipeRuns told_of recipe_told numbers_after
    recipe-ran budget table table' r y =
        let same = (recipe-runs items fuel work work' core core' answer s x h budget (length table)).as-recipe in
        let numbers = y.numbers ∙ ap R.run_numbers same in
        record {
          told = told-run r ∙ rw (ran-accepted items fuel work work' core core' answer s x h, numbers);
          core-after = s.core-after;
          work-after = s.work-after;
          table-after = y.table-after ∙ ap (λ (o : Outcome (Result ℤ)). table_after o table) same;
        }

  -- a refused one
  pub recipe-stopped : (y : Refused) → answer ≡ Err y → (budget : ℕ) (table : List ℕ)
      → RecipeRan items fuel work work' core core' budget table table (Err (A.Expansion y))
  unfolding RecipeRefused told_of recipe_told numbers_after E.numbers_of R.run_numbers table_after
  recipe-stopped y h budget table =
      let g = number_of y.ground in
      let x = X.run items fuel (length work) (length core) in
      let same = recipe-refused items fuel work work' core core' answer s y h budget (length table) in
      let numbers = run-told items fuel work work' core core' answer s (Err y) h in
      let refused = (ran-refused items fuel work work' core core' answer s y h).1 in
      record {
        told =
            ap (λ (k : E.Numbers). told-as g (of_expansion k)) numbers
            ∙ ap (λ (o : X.Outcome). told-as g (numbers_after o (E.run_numbers x) (R.run_numbers (unfit g)))) (sym refused)
            ∙ ap (recipe_told x) (sym same);
        core-after = s.core-after;
        work-after = s.work-after;
        table-after = rw same refl;
      }
