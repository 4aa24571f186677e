-- The output of the program that runs a recipe (request L11), bytes and all: its units and its value, or the ground of its refusal.
use Rattle.std.specs.Prelude.{Bool, true, false, List, [], ◌∷◌, ◌++◌, ℕ, ℤ}
use Rattle.words.specs.Limits.{item_words_least, name_bytes_least, fuel_most, work_most, core_most}
use Rattle.words.specs.Text.{bytes}
use Rattle.reading.specs.Elements.{Answer, got, refused_for}
use Rattle.reading.specs.Read.{Recipe, read, item_words}
use Rattle.core_term.specs.Decimal.{decimal, signed}
use Rattle.output.specs.Output.{line}
use Rattle.evaluation.specs.Run.{Result, number, boolean, datum, closure, operation, Outcome, unfit, refused_on, accepted}
use Rattle.recipe_runs.specs.RecipeRun.{recipe_run}

-- refused, and the ground
unfoldable pub refusal : (ground_number : ℕ) → List ℕ
refusal ground_number = line (bytes "refused" ∷ decimal ground_number ∷ [])

unfoldable pub boolean_text : Bool → List ℕ
boolean_text true = bytes "#t"
boolean_text false = bytes "#f"

-- a line for the value: a number or boolean as it is written; a quoted datum by the place of its first word in the core term; a closure or
-- operation is named as such
unfoldable pub value_line : Result ℤ → List ℕ
unfolding boolean_text
value_line (number z) = line (signed decimal z ∷ [])
value_line (boolean b) = line (boolean_text b ∷ [])
value_line (datum at) = line (bytes "datum" ∷ decimal at ∷ [])
value_line closure = line (bytes "closure" ∷ [])
value_line operation = line (bytes "operation" ∷ [])

-- accepted and the units, then the value
unfoldable pub acceptance : Result ℤ → (units : ℕ) → List ℕ
acceptance r units = line (bytes "accepted" ∷ decimal units ∷ []) ++ value_line r

unfoldable pub printed : Outcome (Result ℤ) → List ℕ
printed (unfit g) = refusal g
printed (refused_on g) = refusal g
printed (accepted r units) = acceptance r units

-- the answer of reading, with fuel, the lengths of the work and core tables, the budget, and the length of the runner's table
unfoldable pub output_of : (fuel work core budget table : ℕ) → Answer Recipe → List ℕ
output_of fuel work core budget table (refused_for stage ground_number) = refusal ground_number
output_of fuel work core budget table (got recipe) = printed (recipe_run (item_words recipe) fuel work core budget table)

-- ---- the program's tables: the largest, with the most fuel

-- once a recipe is expanded, its term is run in the work table: a budget of 18,431 is the largest that this has room for
abbrev pub program_budget : ℕ
program_budget = 18431

unfoldable pub output : List ℕ → List ℕ
output text = output_of fuel_most work_most core_most program_budget work_most (read text item_words_least name_bytes_least)
