-- What the dispatch of a turn tells of a list: its head, what the head finds, and the room for whichever turn that is.
use Rattle.std.specs.Prelude.{◌≡◌, List, ℕ, ◌<◌}
use Rattle.recipe.specs.Name.{Name}
use Rattle.recipe.specs.Tree.{Tree, name, pair, size}
use Rattle.expansion.specs.Lookup.{form, form_of, lookup}
use Rattle.arena.specs.Arena.{tree_at}
use Rattle.turns.specs.declared.answers.Reached.{Reached}
use Rattle.turns.specs.Answers.{TurnEnd}
use Rattle.turns.specs.Memory.{Tables, tables, CoreRoom, Placed, Ready}
use Rattle.turns.specs.Turns.{Turned}
use Rattle.turns.specs.Scopes.{Roomy, QuoteRoom}
use Rattle.turns.specs.MacroTurns.{MacroRoom}

-- the node is a list, whose head is x
pub record Headed (work : List ℕ) (node tail w : ℕ) (x : Name) : Type 0 where
  pub tree : tree_at work node w ≡ pair (name x) (tree_at work tail w)
  pub tail-falls : tail < node

-- its head finds base form k, whatever the operations
pub record FormHead (work : List ℕ) (node tail w k : ℕ) : Type 0 where
  pub head : Name
  pub headed : Headed work node tail w head
  pub finds : (operations : List ℕ) → form (form_of k) ≡ lookup operations head

-- its head is no name
pub record OtherHead (work : List ℕ) (node tail w : ℕ) : Type 0 where
  pub head : Tree
  pub tree : tree_at work node w ≡ pair head (tree_at work tail w)
  pub unlike : (x : Name) → head ≡ name x → ⊥

-- room for whichever form it is
pub record FormRoom (work core macros : List ℕ) (node w : ℕ) (r : Reached) : Type 0 where
  pub quotes : QuoteRoom work core node r
  pub word : CoreRoom core r.at 1
  pub binds : Roomy work core node w r
  pub reads : MacroRoom work macros node w r

-- a turn, whatever the operations and the fuel; `limit` is that of macros in the form at hand
abbrev pub Turns : (limit : ℕ) (tree : Tree) (r : Reached) (before after : Tables) → TurnEnd → Type 0
Turns limit tree r before after a = (operations : List ℕ) (fuel : ℕ) → Ready fuel (size tree) r before → Turned limit operations fuel tree r before after a

-- a turn of an application whose head is no name, whatever waits on it
abbrev pub Applies : (limit : ℕ) (work : List ℕ) (node tail w : ℕ) (r : Reached) (core core' : List ℕ) → TurnEnd → Type 0
Applies limit work node tail w r core core' a =
    (macros : List ℕ) → Placed work r.top node w → OtherHead work node tail w → Turns limit (tree_at work node w) r (tables work core macros) (tables work core' macros) a
