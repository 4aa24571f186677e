-- What a variable takes at no index, on cells: under every wrap, since every part of a use waits under the use's own.
use Rattle.std.specs.Prelude.{◌≡◌, Option, Some, None, ℕ, ◌≤◌, Bool, true, false, List, [], length, nat_le}
use Rattle.recipe.specs.Tree.{elements, past}
use Rattle.expansion.specs.Match.{share, holds, part}
use Rattle.arena.specs.Arena.{word_at, tree_at}
use Rattle.arena.specs.Lists.{Means}
use Rattle.rule_cells.specs.Cells.{pattern_at}

-- whether a pattern's cell holds variable k
abbrev pub Holds : (work : List ℕ) (p k : ℕ) → Bool → Type 0
Holds work p k r = r ≡ holds k (pattern_at work p)

-- how many elements of a list the ellipsis of a pattern's cell takes
abbrev pub Shares : (work : List ℕ) (p list r : ℕ) → Type 0
Shares work p list r = (w : ℕ) → r ≡ share (word_at work p 4) (tree_at work list w)

-- a list has as many elements as follow the ellipsis of a pattern's cell, and the node stands behind so many of them; or it has fewer
abbrev pub LooksAhead : (work : List ℕ) (p list : ℕ) → Option ℕ → Type 0
LooksAhead work p list (Some node) = ((w : ℕ) → nat_le (word_at work p 4) (length (elements (tree_at work list w))) ≡ true) × Means work list node (past (word_at work p 4))
LooksAhead work p list None = (w : ℕ) → nat_le (word_at work p 4) (length (elements (tree_at work list w))) ≡ false

-- r is the list behind these elements
abbrev pub After : (work : List ℕ) (p list r : ℕ) → Type 0
After work p list r = Means work list r (λ t. past (share (word_at work p 4) t) t)

-- r is the part of the use that variable k takes
pub record Part (work : List ℕ) (p k u r : ℕ) : Type 0 where
  pub is-part : (w : ℕ) → tree_at work r w ≡ part (pattern_at work p) k [] (tree_at work u w)
  pub low : r ≤ u
