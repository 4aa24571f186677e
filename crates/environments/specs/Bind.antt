-- The environment of a pattern and a use, as a table: for every variable that the pattern holds its entry, and every other as it was.
use Rattle.std.specs.Prelude.{◌≡◌, ℕ, ◌<◌, ◌≤◌, true, false, cond, ◌&&◌, List, ◌==◌, ◌≢◌}
use Rattle.std.proofs.Math.Option.{Option}
use Rattle.words.specs.Limits.{pattern_variables_most}
use Rattle.expansion.specs.Rules.{Pattern}
use Rattle.expansion.specs.Match.{holds}
use Rattle.arena.specs.Arena.{tree_at}
use Rattle.rule_cells.specs.Cells.{pattern_at}
use Rattle.environments.specs.declared.environment.Entry.{Entry}
use Rattle.environments.specs.Environment.{Ellipsis, entered, environment}
use Rattle.environments.specs.Entries.{entry_at, ellipsis_in, taking_of, Under, Low}

-- a variable takes a node, and lies under the ellipses of these elements
unfoldable pub bound : (node first second : ℕ) → Entry
bound node first second = record { whole = node; one = node; two = node; first = first; second = second; along = 0; across = 0 }

-- entry k is x, where there is one
pub record BindsOne (k : ℕ) (x : Entry) (old new : List ℕ) : Type 0 where
  pub here : k < pattern_variables_most → entry_at new k ≡ x
  pub other : (m : ℕ) → (m ≢ k) → entry_at new m ≡ entry_at old m
  pub low : (b : ℕ) → Low x b → Under old b → Under new b

-- the second ellipsis over variable k: one that is known already, or the first inside the element
unfoldable pub second_of : (work : List ℕ) (second k : ℕ) → Pattern → Option Ellipsis
second_of work second k p = cond (second == 0) (entered k p) (ellipsis_in work second)

-- inside the element of an ellipsis, its cell is the second where none is known
unfoldable pub inner_second : (tag p second : ℕ) → ℕ
inner_second tag p second = cond (tag == 7 && second == 0) p second

-- the variables of an element take the list
pub record BindsList (work : List ℕ) (p list first second : ℕ) (old new : List ℕ) : Type 0 where
  pub held : (k : ℕ) → k < pattern_variables_most → holds k (pattern_at work p) ≡ true
      → (entry_at new k ≡ bound list first (entry_at new k).second) × (ellipsis_in work (entry_at new k).second ≡ second_of work second k (pattern_at work p))
  pub other : (k : ℕ) → holds k (pattern_at work p) ≡ false → entry_at new k ≡ entry_at old k
  pub low : (b : ℕ) → p ≤ b → list ≤ b → first ≤ b → second ≤ b → Under old b → Under new b

-- the variables of a pattern take what it takes from the use
pub record Binds (work : List ℕ) (p u : ℕ) (old new : List ℕ) : Type 0 where
  pub held : (w k : ℕ) → k < pattern_variables_most → holds k (pattern_at work p) ≡ true
      → taking_of work w (entry_at new k) ≡ environment (pattern_at work p) (tree_at work u w) k
  pub other : (k : ℕ) → holds k (pattern_at work p) ≡ false → entry_at new k ≡ entry_at old k
  pub low : (b : ℕ) → p ≤ b → u ≤ b → Under old b → Under new b
