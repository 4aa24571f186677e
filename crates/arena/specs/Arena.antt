-- The arena: what the words of the work table mean. Cells are written once, one above another, and a cell is referred to by
-- its END, the top that its writing left. So a cell's words, and all that it refers to, stand below the reference: what it
-- means depends on those words alone. 0 refers to nothing. Every function here is total: a word that is not there is 0, and
-- a reference that does not fall is none.
use Rattle.std.specs.Prelude.{ℕ, zero, suc, ◌+◌, ◌-◌, ◌*◌, ◌/◌, ◌%◌, Bool, cond, ◌&&◌, ◌||◌, List, [], ◌∷◌, length, ◌==◌, nat_lt, slice_index}
use Rattle.std.proofs.Math.Option.{Option, none, some}
use Rattle.words.specs.Limits.{names_most, fuel_most}
use Rattle.words.specs.Lists.{within, equal}
use Rattle.datum.specs.Constant.{Constant}
use Rattle.recipe.specs.Name.{Binding, variable, macro, Name, plain_name, binding_key, mark_name}
use Rattle.recipe.specs.Tree.{Tree, empty, constant, name, pair}
use Rattle.recipe.specs.Table.{by_kind}
use Rattle.arena.specs.Offsets.{KIND, ORIGIN, OWN, HEAD, TAIL, FIRST, SECOND, TAG, INNER, STEP, OUTER, KEY, BOUND-KEY, BOUND-NUMBER, BOUND-COUNT, BOUND-NEWEST, BOUND-PENDING, BOUND-OWN}

-- ---- cells

-- word k of the cell that ends at `at`, counted back from its end; a cell's last three words are there together, or none of them is
unfoldable pub word_at : List ℕ → ℕ → ℕ → ℕ
word_at work at k =
    cond (within 1 3 k)
    (cond (within 3 (length work) at) (slice_index work (at - k)) 0)
    (cond (nat_lt at k) 0 (slice_index work (at - k)))

-- a cell refers to cells below it
unfoldable pub falling : ℕ → ℕ → ℕ
falling at r = cond (nat_lt r at) r 0

unfoldable pub reference_at : List ℕ → ℕ → ℕ → ℕ
reference_at work at k = falling at (word_at work at k)

-- ---- bindings and marks

-- a binding is one word, its key
unfoldable pub binding_of : ℕ → Option Binding
binding_of k = cond (k == 0) none (cond (k % 2 == 1) (some (variable (k / 2))) (some (macro (k / 2 - 1))))

unfoldable pub give_key : ℕ → Name → Name
give_key k x = record { number = x.number; item = x.item; produced = x.produced; marks = x.marks; binding = binding_of k }

-- marks are numbers of steps, and steps are at most the fuel; a word past them marks nothing
abbrev pub step_limit : ℕ
step_limit = fuel_most + 2

unfoldable pub marked : ℕ → Name → Name
marked m x = cond (nat_lt m step_limit) (mark_name m x) x

-- the newest of a name's marks
unfoldable pub newest : List ℕ → ℕ
newest [] = 0
newest (m ∷ ms) = m

-- ---- wraps: what waits on a tree, as a map of its names

-- the last word of a wrap's cell. A mark: step, parent, 1. A join: outer, inner, 2.
-- A binder: own wrap and pending wrap of its name, its newest mark, the count of its marks, its number, its binding, the new
-- binding, parent, 3
unfoldable pub by_tag : {A : Type 0} → ℕ → A → A → A → A → A
by_tag tag for_mark for_join for_binder for_none = cond (tag == 1) for_mark (cond (tag == 2) for_join (cond (tag == 3) for_binder for_none))

-- `inner` is what the wraps below mean
module _ (work : List ℕ) (inner : ℕ → Name → Name) where
  unfoldable pub mark_on : ℕ → Name → Name
  mark_on w x = marked (word_at work w STEP) (inner (reference_at work w INNER) x)

  unfoldable pub join_on : ℕ → Name → Name
  join_on w x = inner (reference_at work w OUTER) (inner (reference_at work w INNER) x)

  -- the marks of a binder's own name, as they were at its time
  unfoldable pub own_marks : ℕ → List ℕ
  own_marks w = (inner (reference_at work w BOUND-PENDING) (inner (reference_at work w BOUND-OWN) (plain_name 0 0))).marks

  -- the marks are compared where there are more than the newest to compare
  unfoldable pub same_marks : ℕ → List ℕ → Bool
  same_marks w ms = nat_lt (length ms) 2 || equal (own_marks w) ms

  -- x is the same as the binder's own name; count and newest mark tell most others apart
  unfoldable pub is_own : ℕ → Name → Bool
  is_own w x =
      (word_at work w BOUND-NUMBER == x.number) && (word_at work w BOUND-KEY == binding_key x.binding && (word_at work w BOUND-COUNT == length x.marks
      && (word_at work w BOUND-NEWEST == newest x.marks && same_marks w x.marks)))

  unfoldable pub rebound : ℕ → Name → Name
  rebound w x = cond (is_own w x) (give_key (word_at work w KEY) x) x

  unfoldable pub binder_on : ℕ → Name → Name
  binder_on w x = rebound w (inner (reference_at work w INNER) x)

  unfoldable pub wrap_step : ℕ → Name → Name
  wrap_step w = by_tag (word_at work w TAG) (mark_on w) (join_on w) (binder_on w) (λ x. x)

-- references fall, so that the reference itself is gas enough
unfoldable pub wrap_from : List ℕ → ℕ → ℕ → Name → Name
wrap_from work zero w = λ x. x
wrap_from work (suc gas) w = wrap_step work (wrap_from work gas) w

unfoldable pub wrap_at : List ℕ → ℕ → Name → Name
wrap_at work w = wrap_from work w w

-- ---- nodes: a tree without what waits on it. Three words as an item's: kind and two words, a pair's its head and tail.
-- A name's are its origin and its own wrap

-- an origin, in one word: whether the name has stood in a step's result, its number, and the item that it stems from
unfoldable pub origin_name : ℕ → Name
origin_name o = record { number = o / 2 % names_most; item = o / (2 * names_most); produced = (o % 2 == 1); marks = []; binding = none }

-- the name of a name node before any wrap
unfoldable pub node_name : List ℕ → ℕ → Name
node_name work node = origin_name (word_at work node ORIGIN)

unfoldable pub number_of : List ℕ → ℕ → ℕ
number_of work node = (node_name work node).number

-- the name of a name node under a pending wrap: its own wrap, then the pending one
unfoldable pub name_at : List ℕ → ℕ → ℕ → Name
name_at work node w = wrap_at work w (wrap_at work (reference_at work node OWN) (node_name work node))

unfoldable pub constant_at : List ℕ → ℕ → Constant
constant_at work node = record { kind = word_at work node KIND; first = word_at work node FIRST; second = word_at work node SECOND }

-- opening a list hands its wrap on unchanged
unfoldable pub tree_step : List ℕ → (ℕ → ℕ → Tree) → ℕ → ℕ → Tree
tree_step work below node w =
    by_kind (word_at work node KIND)
    empty
    (name (name_at work node w))
    (pair (below (reference_at work node HEAD) w) (below (reference_at work node TAIL) w))
    (constant (constant_at work node))

unfoldable pub tree_from : List ℕ → ℕ → ℕ → ℕ → Tree
tree_from work zero node w = empty
tree_from work (suc gas) node w = tree_step work (tree_from work gas) node w

unfoldable pub tree_at : List ℕ → ℕ → ℕ → Tree
tree_at work node w = tree_from work node node w
