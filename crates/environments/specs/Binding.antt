-- What a pattern's variables take from a use, in words: what binding promises, and what reading gives.
use Rattle.std.specs.Prelude.{◌≡◌, ℕ, ◌+◌, ◌<◌, ◌≤◌, true, List, [], ◌∷◌, reverse, length, take}
use Rattle.words.specs.Limits.{pattern_variables_most, depth_most}
use Rattle.expansion.specs.Match.{holds}
use Rattle.arena.specs.Arena.{tree_at}
use Rattle.arena.specs.Cells.{Room}
use Rattle.rule_cells.specs.Cells.{pattern_at}
use Rattle.environments.specs.Taken.{Taken, tree_in, count, entry, takes}
use Rattle.environments.specs.Blocks.{slots, blocks, columns}
use Rattle.environments.specs.Columns.{entry_of, EntryStands}

-- pattern, use and some wrap below the top, room for the words above it, and no entry yet
pub record Bindable (work env : List ℕ) (p u top : ℕ) : Type 0 where
  pub wrap : ℕ
  pub pattern-below : p ≤ top
  pub use-below : u ≤ top
  pub wrap-below : wrap ≤ top
  pub room : Room work top (slots (pattern_at work p) + blocks (pattern_at work p) (tree_at work u wrap))
  pub unset : (k : ℕ) → (entry_of env k).level ≡ 0

-- each variable's entry stands for what the variable takes, under every wrap; below the top all is as it was
pub record BoundTo (old new env : List ℕ) (p u top end : ℕ) : Type 0 where
  pub end_is : (w : ℕ) → w ≤ top → end ≡ top + (slots (pattern_at old p) + blocks (pattern_at old p) (tree_at old u w))
  pub kept : take top new ≡ take top old
  pub stands : (w k : ℕ) → w ≤ top → k < pattern_variables_most → holds k (pattern_at old p) ≡ true → length (columns (pattern_at old p) k) ≤ 3
      → EntryStands new u top end w (entry_of env k) (takes (pattern_at old p) (tree_at old u w) k)

-- r is the tree that an entry stands for at these two indices
abbrev pub TakenAt : (work env : List ℕ) (k d outer inner r : ℕ) → Type 0
TakenAt work env k d outer inner r =
    (base low high w : ℕ) (y : Taken) → k < pattern_variables_most → d ≤ depth_most → EntryStands work base low high w (entry_of env k) y
    → (r ≤ base) × (tree_at work r w ≡ tree_in (entry (reverse (take d (inner ∷ outer ∷ []))) y))

-- r is the count of its list
abbrev pub CopiesAt : (work env : List ℕ) (k outside inner r : ℕ) → Type 0
CopiesAt work env k outside inner r =
    (base low high w : ℕ) (y : Taken) (is : List ℕ) → k < pattern_variables_most → outside < depth_most → EntryStands work base low high w (entry_of env k) y
    → r ≡ count (entry (reverse (take outside (inner ∷ is))) y)
