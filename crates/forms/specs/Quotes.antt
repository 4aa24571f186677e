-- The words of a quoted node, and what writing words in the core table leaves.
use Rattle.std.specs.Prelude.{◌≡◌, true, List, ◌++◌, ℕ, ◌+◌, ◌≤◌, length, take, drop}
use Rattle.datum.specs.Constant.{is_constant}
use Rattle.recipe.specs.Tree.{Tree, strip, strip_tail}
use Rattle.recipe.specs.Tidy.{Tidy}
use Rattle.core_term.specs.Words.{datum_words, data_words}
use Rattle.arena.specs.Arena.{tree_at}

-- a node's words do not depend on what waits on it (QuoteLaws)
unfoldable pub quoted_at : (work : List ℕ) → ℕ → List ℕ
quoted_at work node = datum_words (strip (tree_at work node 0))

-- those of its elements
unfoldable pub elements_at : (work : List ℕ) → ℕ → List ℕ
elements_at work list = data_words (strip_tail (tree_at work list 0))

-- every constant in it is one
abbrev pub Quotable : Tree → Type 0
Quotable = Tidy (λ x. Unit {0}) (λ a. is_constant a ≡ true)

-- words ws from `at`, all else as it was
pub record Written (ws old new : List ℕ) (at r : ℕ) : Type 0 where
  pub end : r ≡ at + length ws
  pub words : new ≡ take at old ++ ws ++ drop r old

-- the elements of `list` have been written from `at` on, up to `rest`
pub record Walked (work : List ℕ) (list at : ℕ) (old : List ℕ) (rest n : ℕ) (new : List ℕ) : Type 0 where
  pub sofar : List ℕ
  pub whole : elements_at work list ≡ sofar ++ elements_at work rest
  pub written : Written sofar old new at n
  pub low : rest ≤ list
  pub good : Quotable (tree_at work rest 0)
  pub same : length new ≡ length old
