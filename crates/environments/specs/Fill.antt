-- What filling the slots of a pattern from a use leaves: a row of words, blocks above the top, and all else as it was.
use Rattle.std.specs.Prelude.{◌≡◌, ℕ, ◌+◌, ◌*◌, ◌<◌, ◌≤◌, true, List, length, take, ◌≢◌}
use Rattle.recipe.specs.Tree.{element, past}
use Rattle.expansion.specs.Match.{share, holds}
use Rattle.arena.specs.Arena.{word_at, reference_at, tree_at}
use Rattle.arena.specs.Cells.{Room}
use Rattle.rule_cells.specs.Cells.{pattern_at}
use Rattle.environments.specs.declared.fill.Free.{Free}
use Rattle.environments.specs.Taken.{many, takes}
use Rattle.environments.specs.Parts.{Shares}
use Rattle.environments.specs.Blocks.{slots, added, blocks, columns, word_in, Stands, RowStands, Same}

-- pattern, use and some wrap stand below the row, the row below the top, and above it there is room for the blocks
pub record Fillable (work : List ℕ) (p u : ℕ) (x : Free) : Type 0 where
  pub wrap : ℕ
  pub pattern-below : p ≤ x.slot
  pub use-below : u ≤ x.slot
  pub wrap-below : wrap ≤ x.slot
  pub row : x.slot + slots (pattern_at work p) ≤ x.top
  pub room : Room work x.top (blocks (pattern_at work p) (tree_at work u wrap))

-- the row is filled, and under every wrap it holds what the variables take
pub record Filled (old new : List ℕ) (p u : ℕ) (x y : Free) : Type 0 where
  pub slot_is : y.slot ≡ x.slot + slots (pattern_at old p)
  pub top-is : (w : ℕ) → w ≤ x.slot → y.top ≡ x.top + blocks (pattern_at old p) (tree_at old u w)
  pub before : take x.slot new ≡ take x.slot old
  pub between : Same old new y.slot x.top
  pub stands : (w k : ℕ) → w ≤ x.slot → holds k (pattern_at old p) ≡ true
      → RowStands new u x.top y.top w x.slot (columns (pattern_at old p) k) (takes (pattern_at old p) (tree_at old u w) k)

-- ---- the block of an ellipsis at a list

pub record Openable (work : List ℕ) (p u top : ℕ) : Type 0 where
  pub wrap : ℕ
  pub pattern-below : p ≤ top
  pub room : Room work top (2 + share (word_at work p 4) (tree_at work u wrap) * slots (pattern_at work (reference_at work p 3)))

pub record Opened (old new : List ℕ) (p u top c end : ℕ) : Type 0 where
  pub shares : Shares old p u c
  pub count-is : word_in new top ≡ c
  pub width_is : (c ≢ 0) → word_in new (top + 1) ≡ slots (pattern_at old (reference_at old p 3))
  pub end_is : end ≡ top + 2 + c * slots (pattern_at old (reference_at old p 3))
  pub kept : take top new ≡ take top old

-- the whole block, and the list behind what the ellipsis takes
pub record BlockFilled (old new : List ℕ) (p u top node end : ℕ) : Type 0 where
  pub node-is : (w : ℕ) → w ≤ top → tree_at old node w ≡ past (share (word_at old p 4) (tree_at old u w)) (tree_at old u w)
  pub low : node ≤ u
  pub end_is : (w : ℕ) → w ≤ top
      → end ≡ top + (2 + share (word_at old p 4) (tree_at old u w) * slots (pattern_at old (reference_at old p 3)) + added (blocks (pattern_at old (reference_at old p 3))) (share (word_at old p 4) (tree_at old u w)) (tree_at old u w))
  pub kept : take top new ≡ take top old
  pub stands : (w k : ℕ) → w ≤ top → holds k (pattern_at old (reference_at old p 3)) ≡ true
      → Stands new u top end w (columns (pattern_at old (reference_at old p 3)) k) top
      (many (share (word_at old p 4) (tree_at old u w)) (λ i. takes (pattern_at old (reference_at old p 3)) (element i (tree_at old u w)) k))

-- ---- rows of a list's first c elements

pub record RowsFillable (work : List ℕ) (p u c : ℕ) (x : Free) : Type 0 where
  pub wrap : ℕ
  pub pattern-below : p ≤ x.slot
  pub use-below : u ≤ x.slot
  pub wrap-below : wrap ≤ x.slot
  pub row : x.slot + c * slots (pattern_at work p) ≤ x.top
  pub room : Room work x.top (added (blocks (pattern_at work p)) c (tree_at work u wrap))

pub record RowsFilled (old new : List ℕ) (p u c : ℕ) (x : Free) (node end : ℕ) : Type 0 where
  pub node-is : (w : ℕ) → w ≤ x.slot → tree_at old node w ≡ past c (tree_at old u w)
  pub low : node ≤ u
  pub end_is : (w : ℕ) → w ≤ x.slot → end ≡ x.top + added (blocks (pattern_at old p)) c (tree_at old u w)
  pub before : take x.slot new ≡ take x.slot old
  pub stands : (w k i : ℕ) → w ≤ x.slot → holds k (pattern_at old p) ≡ true → i < c
      → RowStands new u x.top end w (x.slot + i * slots (pattern_at old p)) (columns (pattern_at old p) k) (takes (pattern_at old p) (element i (tree_at old u w)) k)

-- so many rows are filled, of c
pub record Filling (old cur : List ℕ) (p u c : ℕ) (x : Free) (i node slot top : ℕ) : Type 0 where
  pub long : length cur ≡ length old
  pub within : i ≤ c
  pub slot_is : slot ≡ x.slot + i * slots (pattern_at old p)
  pub rows : RowsFilled old cur p u i x node top
