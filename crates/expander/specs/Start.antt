-- The start and the end of a call: what the tests of grounds 7 to 10 hand on, how an expansion ends, and what its end leaves.
use Rattle.std.specs.Prelude.{◌≡◌, List, ◌++◌, ℕ, ◌-◌, length, take, replicate, Ok, Err}
use Rattle.words.specs.Code.Ground.{number_of}
use Rattle.words.specs.Limits.{names_most}
use Rattle.recipe.specs.Table.{tree_of}
use Rattle.expansion.specs.Run.{Run, core_of, operation_numbers}
use Rattle.expansion.specs.RunLaws.{Begun}
use Rattle.layout.specs.Places.{Places}
use Rattle.turns.specs.Answers.{Ended}
use Rattle.expander.specs.Service.{Expansion, Numbers, numbers_of, run_numbers}

-- the tests are passed, and the operations have their places
pub record Lends (items work core operations : List ℕ) (fuel : ℕ) : Type 0 where
  pub begun : Begun items fuel (length work) (length core)
  pub placed : Places operations (operation_numbers (tree_of items))
  pub long : length operations ≡ names_most

-- the numbers of an end; the words reach as far as the term is long
unfoldable pub end_numbers : Ended → Numbers
end_numbers (Ok q) = record { ground_number = 0; steps = q.steps; sum = q.sum; length = q.at }
end_numbers (Err x) = record { ground_number = number_of x.ground; steps = x.steps; sum = x.sum; length = 0 }

-- an expansion ended as the run says, and its term's words begin the core table
pub record Expanded (run : Run) (core : List ℕ) (e : Ended) : Type 0 where
  pub numbers : end_numbers e ≡ run_numbers run
  pub words : take (length (core_of run)) core ≡ core_of run

-- a table's first words, then zeros
unfoldable pub kept_to : ℕ → List ℕ → List ℕ
kept_to n table = take n table ++ replicate (length table - n) 0

-- the answer has the end's numbers, and the core table its words
pub record Finished (e : Ended) (core core' : List ℕ) (r : Expansion) : Type 0 where
  pub numbers : numbers_of r ≡ end_numbers e
  pub table : core' ≡ kept_to (end_numbers e).length core
