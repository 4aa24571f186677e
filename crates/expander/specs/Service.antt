-- The promise of the expansion service: its answer and every word of both lent tables are those of the definition's run, for
-- every item table, fuel and pair of lent tables.
use Rattle.std.specs.Prelude.{◌≡◌, List, [], ℕ, length, Result, Ok, Err}
use Rattle.words.specs.Code.Ground.{number_of}
use Rattle.words.specs.Tables.{left_at}
use Rattle.expansion.specs.Run.{Outcome, accepted, refused_on, unfinished, stage_of, Run, core_of, run}
use Rattle.turns.specs.declared.answers.Refused.{Refused}
use Rattle.expander.specs.declared.Expanded.{Expanded}

-- how a call ends: accepted, or refused
abbrev pub Expansion : Type 0
Expansion = Result Expanded Refused

-- ---- this paper's numbers for each answer

-- ground (accepted is 0), steps, sum, length of the term
pub record Numbers : Type 0 where
  pub ground_number : ℕ
  pub steps : ℕ
  pub sum : ℕ
  pub length : ℕ

unfoldable pub numbers_of : Expansion → Numbers
numbers_of (Ok x) = record { ground_number = 0; steps = x.steps; sum = x.sum; length = x.length }
numbers_of (Err x) = record { ground_number = number_of x.ground; steps = x.steps; sum = x.sum; length = 0 }

-- no run is unfinished (`run-finished`); its number is no ground's, and more than a word holds, so that no answer has it
unfoldable pub ground_of : Outcome → ℕ
ground_of accepted = 0
ground_of (refused_on stage g) = g
ground_of unfinished = 4294967296

unfoldable pub run_numbers : Run → Numbers
run_numbers r = record { ground_number = ground_of r.outcome; steps = r.steps; sum = r.sum; length = length (core_of r) }

-- ---- the tables

-- the core table is left with the accepted term, the work table with nothing
unfoldable pub core_after : Run → List ℕ → List ℕ
core_after r core = left_at (stage_of r.outcome) (core_of r) core

unfoldable pub work_after : Run → List ℕ → List ℕ
work_after r work = left_at (stage_of r.outcome) [] work

-- ---- the promise

-- what a call answers and leaves
pub record Served (items : List ℕ) (fuel : ℕ) (work work' core core' : List ℕ) (r : Expansion) : Type 0 where
  pub numbers : numbers_of r ≡ run_numbers (run items fuel (length work) (length core))
  pub core-after : core' ≡ core_after (run items fuel (length work) (length core)) core
  pub work-after : work' ≡ work_after (run items fuel (length work) (length core)) work
