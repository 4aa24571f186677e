-- Lists in the arena: what the functions that read a node answer, under every wrap that waits on it.
use Rattle.std.specs.Prelude.{◌≡◌, ℕ, ◌+◌, ◌≤◌, Bool, List, length}
use Rattle.recipe.specs.Tree.{Tree, elements, past}
use Rattle.arena.specs.Arena.{tree_at}

-- r is f of the node, and a reference no higher
pub record Means (work : List ℕ) (node r : ℕ) (f : Tree → Tree) : Type 0 where
  pub is : (w : ℕ) → tree_at work r w ≡ f (tree_at work node w)
  pub low : r ≤ node

-- n is the count of the node's elements
pub record Counts (work : List ℕ) (node n : ℕ) : Type 0 where
  pub is : (w : ℕ) → n ≡ length (elements (tree_at work node w))
  pub low : n ≤ node

-- r is a test of the node
abbrev pub Tests : (f : Tree → Bool) (work : List ℕ) (node : ℕ) (r : Bool) → Type 0
Tests f work node r = (w : ℕ) → r ≡ f (tree_at work node w)

-- k elements are counted, and the node's are left
pub record Counted (work : List ℕ) (list node k : ℕ) : Type 0 where
  pub is : (w : ℕ) → length (elements (tree_at work list w)) ≡ k + length (elements (tree_at work node w))
  pub low : node + k ≤ list

-- the list after its first n elements is the node after its first k
pub record Skipped (work : List ℕ) (list n node k : ℕ) : Type 0 where
  pub is : (w : ℕ) → past n (tree_at work list w) ≡ past k (tree_at work node w)
  pub low : node ≤ list
