-- The promise of the runner: its answer and every word of the lent table are those of the definition, for every slice of words, budget and
-- table. The numbers for each case of its answers stand here.
use Rattle.std.specs.Prelude.{◌≡◌, Bool, cond, List, ℕ, ℤ, length, Result, Ok, Err}
use Rattle.std.specs.Int.{w32}
use Rattle.std.proofs.Common.{of_z}
use Rattle.evaluation.specs.Run as R
use Rattle.words.specs.declared.ground.Ground.{Ground}
use Rattle.words.specs.Code.Ground.{number_of}
use Rattle.evaluation.specs.Run.{unfit, refused_on, accepted}
use Rattle.runner.specs.declared.Value.{Value}
use Rattle.runner.specs.declared.Value.TheVariants.{Integer, Boolean, Datum, Closure, Operation}
use Rattle.runner.specs.declared.Outcome.{Outcome}

-- ground (accepted is 0); what the result is: 1 number, 2 boolean, 3 quoted datum, 4 closure, 5 operation; its two words; the units
pub record Numbers : Type 0 where
  pub ground_number : ℕ
  pub kind : ℕ
  pub first : ℕ
  pub second : ℕ
  pub units : ℕ

abbrev pub told : (kind first second units : ℕ) → Numbers
told k a b u = record { ground_number = 0; kind = k; first = a; second = b; units = u }

-- a refused call gives zeros
abbrev pub refusal : ℕ → Numbers
refusal g = record { ground_number = g; kind = 0; first = 0; second = 0; units = 0 }

abbrev pub bit : Bool → ℕ
bit b = cond b 1 0

-- an integer by its word, a datum by its place
unfoldable pub result_numbers : R.Result ℤ → ℕ → Numbers
result_numbers (R.number z) u = told 1 (of_z w32 z) 0 u
result_numbers (R.boolean b) u = told 2 (bit b) 0 u
result_numbers (R.datum at) u = told 3 at 0 u
result_numbers R.closure u = told 4 0 0 u
result_numbers R.operation u = told 5 0 0 u

unfoldable pub run_numbers : R.Outcome (R.Result ℤ) → Numbers
run_numbers (unfit g) = refusal g
run_numbers (refused_on g) = refusal g
run_numbers (accepted r u) = result_numbers r u

-- of the code's answers
unfoldable pub value_numbers : Value → ℕ → Numbers
value_numbers (Integer w) u = told 1 w 0 u
value_numbers (Boolean b) u = told 2 (bit b) 0 u
value_numbers (Datum at) u = told 3 at 0 u
value_numbers Closure u = told 4 0 0 u
value_numbers Operation u = told 5 0 0 u

unfoldable pub numbers_of : Result Outcome Ground → Numbers
numbers_of (Ok o) = value_numbers o.value o.units
numbers_of (Err g) = refusal (number_of g)

pub record Ran (words : List ℕ) (budget : ℕ) (table table' : List ℕ) (r : Result Outcome Ground) : Type 0 where
  pub numbers : numbers_of r ≡ run_numbers (R.run words budget (length table))
  pub table-after : table' ≡ R.table_after (R.run words budget (length table)) table
