-- From the answers of reading, expansion and the runner to what the definition prints.
use Rattle.std.specs.Prelude.{◌≡◌, refl, true, false, List, ℕ, zero, suc, ◌*◌, eqb, ℤ, length, take}
use Rattle.std.specs.Prelude as P
use Rattle.std.proofs.Common.{subst, ◌∙◌, to_z, of_z}
use Rattle.std.proofs.Math.Path.{ap, ap₂}
use Rattle.std.specs.Int.{w32}
use Rattle.words.specs.Limits.{item_words_least, name_bytes_least, fuel_most, work_most, core_most}
use Rattle.reading.specs.Read.{read}
use Rattle.words.specs.declared.ground.Ground.{Ground}
use Rattle.reader.specs.declared.Counts.{Counts}
use Rattle.reader.specs.Served as R
use Rattle.turns.specs.declared.answers.Refused.{Refused}
use Rattle.expander.specs.declared.Expanded.{Expanded}
use Rattle.expander.specs.Service as E
use Rattle.evaluation.specs.Run.{Result, number, boolean, datum, closure, operation, Outcome, unfit, refused_on, accepted, run}
use Rattle.evaluation.proofs.InRangeLaws.{number_word}
use Rattle.recipe_runs.specs.RecipeRun.{recipe_run}
use Rattle.run_calls.specs.Statement.{RecipeRuns, RecipeRefused}
use Rattle.run_calls.specs.Calls.{recipe-runs, recipe-refused}
use Rattle.run_output.specs.Output.{refusal, acceptance, printed, output_of, output, program_budget}
use Rattle.runner.specs.declared.Value.{Value}
use Rattle.runner.specs.declared.Value.TheVariants as V
use Rattle.runner.specs.declared.Outcome as Code
use Rattle.runner.specs.Service.{Numbers, value_numbers, numbers_of, result_numbers, run_numbers, Ran}
use Rattle.program_laws.specs.ReadLaws.{refused-read, of-recipe}
use Rattle.program_laws.specs.Printed.{Printed}
use Rattle.run_recipe.specs.Line.{value_of, line_of}

-- ---- the runner

-- what is printed, by the numbers that the runner promises
unfoldable line_for : (kind ground_number first units : ℕ) → List ℕ
line_for zero g a u = refusal g
line_for (suc zero) g a u = acceptance (number (to_z w32 a)) u
line_for (suc (suc zero)) g a u = acceptance (boolean (eqb a 1)) u
line_for (suc (suc (suc zero))) g a u = acceptance (datum a) u
line_for (suc (suc (suc (suc zero)))) g a u = acceptance closure u
line_for (suc (suc (suc (suc (suc k))))) g a u = acceptance operation u

abbrev line_by : Numbers → List ℕ
line_by n = line_for n.kind n.ground_number n.first n.units

value-line : (v : Value) (u : ℕ) → value_of v u ≡ line_by (value_numbers v u)
unfolding value_of line_for value_numbers
value-line (V.Integer w) u = refl
value-line (V.Boolean true) u = refl
value-line (V.Boolean false) u = refl
value-line (V.Datum at) u = refl
value-line V.Closure u = refl
value-line V.Operation u = refl

answer-line : (r : P.Result Code.Outcome Ground) → line_of r ≡ line_by (numbers_of r)
unfolding line_of line_for numbers_of
answer-line (P.Ok o) = value-line o.value o.units
answer-line (P.Err g) = refl

outcome-line : (o : Outcome (Result ℤ)) → ((z : ℤ) (u : ℕ) → o ≡ accepted (number z) u → to_z w32 (of_z w32 z) ≡ z) → line_by (run_numbers o) ≡ printed o
unfolding line_for run_numbers result_numbers printed
outcome-line (unfit g) back = refl
outcome-line (refused_on g) back = refl
outcome-line (accepted (number z) u) back = ap (λ (y : ℤ). acceptance (number y) u) (back z u refl)
outcome-line (accepted (boolean true) u) back = refl
outcome-line (accepted (boolean false) u) back = refl
outcome-line (accepted (datum at) u) back = refl
outcome-line (accepted closure u) back = refl
outcome-line (accepted operation u) back = refl

run-line : (words : List ℕ) (budget : ℕ) (table table' : List ℕ) (r : P.Result Code.Outcome Ground) → Ran words budget table table' r → line_of r ≡ printed (run words budget (length table))
run-line words budget table table' r s = answer-line r ∙ ap line_by s.numbers ∙ outcome-line (run words budget (length table)) (number_word words budget (length table))

-- ---- expansion

module _ (items : List ℕ) (fuel : ℕ) (work work' core core' : List ℕ) (r : E.Expansion) (s : E.Served items fuel work work' core core' r) (budget : ℕ) where
  -- the term is run in the work table
  pub expanded-run : (x : Expanded) → r ≡ P.Ok x → (to : ℕ) → to ≡ x.length → length work' ≡ length work
      → (table : List ℕ) (a : P.Result Code.Outcome Ground) → Ran (take to core') budget work' table a
      → line_of a ≡ printed (recipe_run items fuel (length work) (length core) budget (length work))
  unfolding RecipeRuns
  expanded-run x h to w e table a ran =
      run-line (take to core') budget work' table a ran
      ∙ ap₂ (λ (size lent : ℕ). printed (run (take size core') budget lent)) w e
      ∙ ap printed (recipe-runs items fuel work work' core core' r s x h budget (length work)).as-recipe

  pub expanded-refused : (y : Refused) → r ≡ P.Err y → line_of (P.Err y.ground) ≡ printed (recipe_run items fuel (length work) (length core) budget (length work))
  unfolding RecipeRefused printed line_of
  expanded-refused y h = rw (recipe-refused items fuel work work' core core' r s y h budget (length work))

-- ---- reading

module _ (text items items' names names' : List ℕ) (r : P.Result Counts Ground) (s : R.Served text items items' names names' r) (fuel work core budget table : ℕ) where
  pub value_read : (k : Counts) → r ≡ P.Ok k → (x : List ℕ) → x ≡ printed (recipe_run (take (3 * k.items) items') fuel work core budget table)
      → x ≡ output_of fuel work core budget table (read text (length items) (length names))
  unfolding output_of
  value_read k h x e =
      e ∙ of-recipe text items items' names names' r s k h (λ ws ns. printed (recipe_run ws fuel work core budget table)) (output_of fuel work core budget table) (λ y. refl)

  pub value-refused : (g : Ground) → r ≡ P.Err g → line_of (P.Err g) ≡ output_of fuel work core budget table (read text (length items) (length names))
  unfolding output_of line_of
  value-refused g h = rw (refused-read text items items' names names' r s g h).1

-- ---- the largest tables

pub output-told : (text : List ℕ) (items names work core : ℕ) (x out out' : List ℕ) (n : ℕ)
    → x ≡ output_of fuel_most work core program_budget work (read text items names)
    → items ≡ item_words_least → names ≡ name_bytes_least → work ≡ work_most → core ≡ core_most
    → Printed x out out' n → Printed (output text) out out' n
unfolding output
output-told text items names work core x out out' n e i a k c p = subst (λ (z : List ℕ). Printed z out out' n) (e ∙ rw (i, a, k, c)) p
