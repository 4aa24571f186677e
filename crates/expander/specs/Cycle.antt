-- The loops of the cycle: what holds of an expression while turns stand for one another, and of operands while they are walked.
use Rattle.std.specs.Prelude.{List, ℕ, ◌+◌, ◌-◌, ◌≤◌}
use Rattle.words.specs.Limits.{macros_most}
use Rattle.recipe.specs.Name.{Name}
use Rattle.recipe.specs.Tree.{Tree, size}
use Rattle.core_term.specs.Term.{Term, Terms}
use Rattle.expansion.specs.Run.{words_of, words_of_all}
use Rattle.expansion.specs.Forms.{expand, expand_all}
use Rattle.arena.specs.Arena.{tree_at}
use Rattle.turns.specs.declared.answers.Reached.{Reached}
use Rattle.turns.specs.Answers.{Ended}
use Rattle.turns.specs.Ends.{End, end_of}
use Rattle.turns.specs.Memory.{Tables, state_at, Placed, Kept}
use Rattle.turns.specs.Turns.{Lent, Left}

-- some operations have these places
pub record Lending (places : List ℕ) : Type 0 where
  pub operations : List ℕ
  pub lent : Lent operations places

-- what falls: the items at hand and the fuel left
abbrev pub left_of : (fuel : ℕ) (work : List ℕ) (node w : ℕ) → Reached → ℕ
left_of fuel work node w r = size (tree_at work node w) + (fuel - r.sum)

module _ (operations : List ℕ) (fuel : ℕ) where
  -- the definition's ends with so much gas
  abbrev pub expand_by : ℕ → Tree → Tables → Reached → End (Term Name)
  expand_by gas t a r = end_of (expand macros_most operations fuel gas t (state_at a r))

  abbrev pub expand_all_by : ℕ → Tree → Tables → Reached → End (Terms Name)
  expand_all_by gas t a r = end_of (expand_all macros_most operations fuel (expand macros_most operations fuel gas) t (state_at a r))

  -- an answer and the last tables are right for an expression, and for operands, whatever gas is enough
  abbrev pub Right : Tree → Reached → Tables → Tables → Ended → Type 0
  Right t r a last e = (gas : ℕ) → size t + fuel ≤ gas + r.sum → Left words_of r a.core last (expand_by gas t a r) e

  abbrev pub RightAll : Tree → Reached → Tables → Tables → Ended → Type 0
  RightAll t r a last e = (gas : ℕ) → size t - 1 + fuel ≤ gas + r.sum → Left words_of_all r a.core last (expand_all_by gas t a r) e

  -- the expression at hand stands for the first
  pub record Going (tree : Tree) (r₀ : Reached) (before : Tables) (node w : ℕ) (r : Reached) (a : Tables) : Type 0 where
    pub kept : Kept fuel (size tree) (size (tree_at a.work node w)) r₀ r before a
    pub placed : Placed a.work r.top node w
    pub falls : size (tree_at a.work node w) + r₀.sum ≤ size tree + r.sum
    pub means : (e : Ended) (last : Tables) → Right (tree_at a.work node w) r a last e → Right tree r₀ before last e

  -- the operands left stand for all
  pub record Walking (tree : Tree) (r₀ : Reached) (before : Tables) (list w : ℕ) (r : Reached) (a : Tables) : Type 0 where
    pub kept : Kept fuel (size tree - 1) (size (tree_at a.work list w) - 1) r₀ r before a
    pub placed : Placed a.work r.top list w
    pub falls : size (tree_at a.work list w) + r₀.sum ≤ size tree + r.sum
    pub means : (e : Ended) (last : Tables) → RightAll (tree_at a.work list w) r a last e → RightAll tree r₀ before last e
