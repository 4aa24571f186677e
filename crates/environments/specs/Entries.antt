-- The table of an environment: seven words for each variable, whatever waits on the use. Past the table nothing is taken.
use Rattle.std.specs.Prelude.{◌≡◌, ℕ, zero, suc, ◌+◌, ◌*◌, ◌≤◌, cond, List, [], ◌==◌, ◌≢◌, slice_index}
use Rattle.std.proofs.Math.Option.{Option, none, some}
use Rattle.words.specs.Limits.{pattern_variables_most}
use Rattle.recipe.specs.Tree.{element}
use Rattle.expansion.specs.Match.{part}
use Rattle.arena.specs.Arena.{word_at, reference_at, tree_at}
use Rattle.rule_cells.specs.Cells.{pattern_at}
use Rattle.environments.specs.declared.environment.Entry.{Entry}
use Rattle.environments.specs.Environment.{Ellipsis, Taking, Environment, counts, entering, enter}

abbrev pub entry_words : ℕ
entry_words = 7

-- the words of all sixteen
abbrev pub table_words : ℕ
table_words = 112

-- word f of entry k
unfoldable pub field : List ℕ → (k f : ℕ) → ℕ
field env k f = slice_index env (entry_words * k + f)

unfoldable pub entry_at : List ℕ → ℕ → Entry
entry_at env k =
    record { whole = field env k 0; one = field env k 1; two = field env k 2; first = field env k 3; second = field env k 4; along = field env k 5; across = field env k 6 }

-- the ellipsis of a pattern's cell, where it is one
unfoldable pub ellipsis_in : (work : List ℕ) → ℕ → Option Ellipsis
ellipsis_in work q = cond (q == 0) none (some (pattern_at work (reference_at work q 3), word_at work q 4))

unfoldable pub taking_of : (work : List ℕ) (w : ℕ) → Entry → Taking
taking_of work w x =
    record {
      whole = tree_at work x.whole w;
      one = tree_at work x.one w;
      two = tree_at work x.two w;
      first = ellipsis_in work x.first;
      second = ellipsis_in work x.second;
    }

unfoldable pub environment_at : (work env : List ℕ) (w : ℕ) → Environment
environment_at work env w k = taking_of work w (entry_at env k)

-- the word of an entry that d indices lead to
unfoldable pub level : ℕ → ℕ
level zero = 0
level (suc zero) = 1
level (suc (suc d)) = 2

-- the word of an entry that has the list which the index after d others counts; its ellipsis stands three words behind
unfoldable pub next_level : ℕ → ℕ
next_level zero = 0
next_level (suc d) = 1

-- the node that variable k takes under the innermost d indices
unfoldable pub taken_in : List ℕ → (k d : ℕ) → ℕ
taken_in env k d = field env k (level d)

-- a template's variable under one ellipsis of the pattern that is itself the ellipsis's element, so that it takes a list's elements
pub record Listed (work env : List ℕ) (e : ℕ) : Type 0 where
  pub variable : word_at work e 1 ≡ 1
  pub once : word_at work e 2 ≡ 1
  pub element-is : word_at work (reference_at work (field env (word_at work e 3) 3) 3) 1 ≡ 1

-- no word refers past the top
abbrev pub Under : List ℕ → ℕ → Type 0
Under env top = (i : ℕ) → slice_index env i ≤ top

pub record Low (x : Entry) (b : ℕ) : Type 0 where
  pub whole-low : x.whole ≤ b
  pub one-low : x.one ≤ b
  pub two-low : x.two ≤ b
  pub first-low : x.first ≤ b
  pub second-low : x.second ≤ b
  pub along-low : x.along ≤ b
  pub across-low : x.across ≤ b

-- how many copies the list of variable k drives, under d indices
abbrev pub CountsCopies : (work env : List ℕ) (k d r : ℕ) → Type 0
CountsCopies work env k d r = (w : ℕ) → r ≡ counts d (environment_at work env w k)

-- entry k is x, and all others are as they were
pub record Stored (k : ℕ) (x : Entry) (old new : List ℕ) : Type 0 where
  pub here : entry_at new k ≡ x
  pub other : (m : ℕ) → (m ≢ k) → entry_at new m ≡ entry_at old m
  pub low : (b : ℕ) → Low x b → Under old b → Under new b

-- ---- going along lists

-- only entries below n go along lists: the others are under no ellipsis
pub record Moving (env : List ℕ) (n : ℕ) : Type 0 where
  pub among : n ≤ pattern_variables_most
  pub others : (k : ℕ) → n ≤ k → (entry_at env k).first ≡ 0

-- the node is the list after its first i elements
pub record Ahead (work : List ℕ) (list i node : ℕ) : Type 0 where
  pub is : (w m : ℕ) → element (i + m) (tree_at work list w) ≡ element m (tree_at work node w)

-- the entry of an element before its first copy, from the entry outside
unfoldable pub begun : Entry → Entry
begun x = record { whole = x.whole; one = x.whole; two = x.one; first = x.first; second = x.second; along = x.whole; across = x.one }

-- x is the entry before copy i, from the entry o outside
pub record Along (work : List ℕ) (o : Entry) (i : ℕ) (x : Entry) : Type 0 where
  pub whole_is : x.whole ≡ o.whole
  pub first-is : x.first ≡ o.first
  pub second_is : x.second ≡ o.second
  pub flat : o.first ≡ 0 → x ≡ begun o
  pub narrow : o.second ≡ 0 → x.two ≡ o.one
  pub along-is : (o.first ≢ 0) → Ahead work o.whole i x.along
  pub across-is : (o.first ≢ 0) → (o.second ≢ 0) → Ahead work o.one i x.across

-- all entries are so
abbrev pub AlongAll : (work outer : List ℕ) (i : ℕ) (inner : List ℕ) → Type 0
AlongAll work outer i inner = (k : ℕ) → Along work (entry_at outer k) i (entry_at inner k)

-- what variable k takes of a list's first element by the element's pattern; without a pattern, what it took before
pub record Within (work : List ℕ) (q k list before r : ℕ) : Type 0 where
  pub flat : q ≡ 0 → r ≡ before
  pub is : (q ≢ 0) → (w : ℕ) → tree_at work r w ≡ part (pattern_at work (reference_at work q 3)) k [] (element 0 (tree_at work list w))
  pub low : (b : ℕ) → list ≤ b → before ≤ b → r ≤ b

-- y is the entry of variable k in the copy that x stands before, and stands before the next
pub record Next (work : List ℕ) (k : ℕ) (x y : Entry) : Type 0 where
  pub goes : (o : Entry) (i : ℕ) → Along work o i x
      → (Along work o (i + 1) y) × ((w : ℕ) → taking_of work w y ≡ entering k i (ellipsis_in work o.first) (taking_of work w o))
  pub low : (b : ℕ) → Low x b → Low y b

-- the environment of the copy that the table stands before; the table stands before the next
pub record Enters (work old new : List ℕ) : Type 0 where
  pub goes : (outer : List ℕ) (i : ℕ) → AlongAll work outer i old
      → (AlongAll work outer (i + 1) new) × ((w : ℕ) → environment_at work new w ≡ enter i (environment_at work outer w))
  pub low : (b : ℕ) → Under old b → Under new b
