-- The words of an accepted run are one term that passes ground 19: with the recipe's count of operations, or more up to 256, and with any
-- test of names that the numbers of the table's names pass. With a reading's own table that is every name (`output/specs/Written.antt`).
pub mod Worlds
pub mod WorldState
pub mod SoundTerms
pub mod Sound
use Rattle.std.specs.Prelude.{◌≡◌, Bool, true, List, ℕ, ◌+◌, ◌≤◌}
use Rattle.std.proofs.Math.Option.{some}
use Rattle.words.specs.Each.{Each}
use Rattle.recipe.specs.Name.{Name}
use Rattle.recipe.specs.Table.{items}
use Rattle.recipe.specs.TableNames.{NameOf}
use Rattle.core_term.specs.Term.{Term}
use Rattle.core_term.specs.Check.{term_of}
use Rattle.expansion.specs.Run.{Run, told, core_of}

-- the run has a term, whose words pass with so many operations and this test of names
pub record CoreTerm (operations : ℕ) (good : ℕ → Bool) (r : Run) : Type 0 where
  pub term : Term Name
  pub given : r.term ≡ some term
  pub passes : term_of operations good (core_of r) ≡ some (told term)

-- the number of every name of an item table passes the test
abbrev pub Named : (good : ℕ → Bool) → List ℕ → Type 0
Named good ws = Each (NameOf (λ x. good x.number ≡ true)) (items 0 ws)
