-- How the code's answers and tables meet the definition's ends: of an expression, of operands, and of one turn.
use Rattle.std.specs.Prelude.{◌≡◌, List, ℕ, ◌+◌, ◌-◌, ◌≤◌, ◌<◌, Ok, Err}
use Rattle.words.specs.Limits.{macros_most}
use Rattle.words.specs.Code.Ground.{number_of}
use Rattle.recipe.specs.Name.{Name}
use Rattle.recipe.specs.Tree.{Tree, size}
use Rattle.core_term.specs.Term.{Term, Terms}
use Rattle.expansion.specs.Run.{words_of, words_of_all}
use Rattle.expansion.specs.Lookup.{unbound_meaning}
use Rattle.expansion.specs.Computation.{State, M}
use Rattle.expansion.specs.Forms.{expand_tree, expand_all, expand}
use Rattle.arena.specs.Arena.{tree_at}
use Rattle.resolution.specs.Names.{unbound_in}
use Rattle.forms.specs.Quotes.{Written}
use Rattle.turns.specs.declared.answers.Reached.{Reached}
use Rattle.turns.specs.declared.answers.Turn.TheVariants.{Again, Operands, Over}
use Rattle.turns.specs.Answers.{Ended, TurnEnd}
use Rattle.turns.specs.Ends.{End, finished, refused_end, halted, end_of}
use Rattle.turns.specs.Memory.{Tables, state_at, Placed, Kept}

-- a table of places is that of these operations
pub record Lent (operations places : List ℕ) : Type 0 where
  pub places-are : (n : ℕ) → unbound_in places n ≡ unbound_meaning operations n

-- ---- an end and the answer

-- from r and a core table; the words are those of what is made
module _ {A : Type 0} (words : A → List ℕ) (r : Reached) (core : List ℕ) (after : Tables) where
  abbrev pub Left : End A → Ended → Type 0
  Left (finished a s) (Ok q) = (s ≡ state_at after q) × Written (words a) core after.core r.at q.at
  Left (finished a s) (Err x) = ⊥
  Left (refused_end g s) (Ok q) = ⊥
  Left (refused_end g s) (Err x) = (g ≡ number_of x.ground) × (s.steps ≡ x.steps) × (s.sum ≡ x.sum)
  Left halted a = ⊥

-- where the call is done, nothing of the n items is left
abbrev pub KeptBy : (fuel n : ℕ) (r : Reached) (before after : Tables) → Ended → Type 0
KeptBy fuel n r before after (Ok q) = Kept fuel n 0 r q before after
KeptBy fuel n r before after (Err x) = Unit {0}

-- ---- one turn, whatever expands the expressions in it; `limit` is that of macros in the form at hand

module _ (limit : ℕ) (operations : List ℕ) (fuel : ℕ) where
  -- the end of an expression, and of operands
  abbrev pub turn_of : (Tree → M (Term Name)) → Tree → State → End (Term Name)
  turn_of expand t s = end_of (expand_tree limit operations fuel expand t s)

  abbrev pub operands_of : (Tree → M (Term Name)) → Tree → State → End (Terms Name)
  operands_of expand t s = end_of (expand_all limit operations fuel expand t s)

  module _ (tree : Tree) (r : Reached) (before after : Tables) where
    -- the whole expression is expanded
    pub record Ends (a : Ended) : Type 0 where
      pub kept : KeptBy fuel (size tree) r before after a
      pub means : (expand : Tree → M (Term Name)) → Left words_of r before.core after (turn_of expand tree (state_at before r)) a

    -- another expression stands for it
    pub record Follows (node w : ℕ) (q : Reached) : Type 0 where
      pub kept : Kept fuel (size tree) (size (tree_at after.work node w)) r q before after
      pub placed : Placed after.work q.top node w
      pub falls : size (tree_at after.work node w) + r.sum < size tree + q.sum
      pub means : (expand : Tree → M (Term Name)) (a : Ended) (last : Tables)
          → Left words_of q after.core last (end_of (expand (tree_at after.work node w) (state_at after q))) a
          → Left words_of r before.core last (turn_of expand tree (state_at before r)) a

    -- operands are left of it; the end of their list costs nothing
    pub record Spreads (list w : ℕ) (q : Reached) : Type 0 where
      pub kept : Kept fuel (size tree) (size (tree_at after.work list w) - 1) r q before after
      pub placed : Placed after.work q.top list w
      pub falls : size (tree_at after.work list w) + r.sum ≤ size tree + q.sum
      pub means : (expand : Tree → M (Term Name)) (a : Ended) (last : Tables)
          → Left words_of_all q after.core last (operands_of expand (tree_at after.work list w) (state_at after q)) a
          → Left words_of r before.core last (turn_of expand tree (state_at before r)) a

    abbrev pub Turned : TurnEnd → Type 0
    Turned (Ok (Again node w q)) = Follows node w q
    Turned (Ok (Operands list w q)) = Spreads list w q
    Turned (Ok (Over q)) = Ends (Ok q)
    Turned (Err x) = Ends (Err x)

-- ---- whole expressions and operands, under the limit of a recipe: enough gas is as much as there are items and fuel

module _ (operations : List ℕ) (fuel : ℕ) (tree : Tree) (r : Reached) (before after : Tables) where
  pub record Expands (a : Ended) : Type 0 where
    pub kept : KeptBy fuel (size tree) r before after a
    pub means : (gas : ℕ) → size tree + fuel ≤ gas + r.sum → Left words_of r before.core after (end_of (expand macros_most operations fuel gas tree (state_at before r))) a

  pub record ExpandsAll (a : Ended) : Type 0 where
    pub kept : KeptBy fuel (size tree - 1) r before after a
    pub means : (gas : ℕ) → size tree - 1 + fuel ≤ gas + r.sum
        → Left words_of_all r before.core after (end_of (expand_all macros_most operations fuel (expand macros_most operations fuel gas) tree (state_at before r))) a

-- ---- the same, whatever the operations whose places are lent

module _ (places : List ℕ) (fuel : ℕ) (tree : Tree) (r : Reached) (before after : Tables) where
  abbrev pub TurnedBy : TurnEnd → Type 0
  TurnedBy a = (operations : List ℕ) → Lent operations places → Turned macros_most operations fuel tree r before after a

  abbrev pub ExpandsBy : Ended → Type 0
  ExpandsBy a = (operations : List ℕ) → Lent operations places → Expands operations fuel tree r before after a

  abbrev pub ExpandsAllBy : Ended → Type 0
  ExpandsAllBy a = (operations : List ℕ) → Lent operations places → ExpandsAll operations fuel tree r before after a
