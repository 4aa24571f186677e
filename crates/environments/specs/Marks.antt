-- Which lists drive the copies of an element, as a table of marks: a word for each variable and each of the levels none and one, the
-- number of indices that the list is taken under. A list is counted once, however often its variable occurs.
use Rattle.std.specs.Prelude.{◌≡◌, ℕ, zero, suc, ◌+◌, ◌*◌, ◌<◌, Bool, true, false, ◌&&◌, ◌||◌, List, ◌==◌, slice_index}
use Rattle.words.specs.Limits.{pattern_variables_most, depth_most}
use Rattle.words.specs.Lists.{any_of}
use Rattle.expansion.specs.Rules.{drivers}
use Rattle.rule_cells.specs.Cells.{template_at}
use Rattle.environments.specs.Environment.{counts}
use Rattle.environments.specs.Entries.{entry_at, environment_at, Moving, AlongAll}
use Rattle.environments.specs.Lengths.{Driving, also}

abbrev pub mark_words : ℕ
mark_words = 32

-- the list that variable k takes under l indices is marked
unfoldable pub marked : List ℕ → (k l : ℕ) → Bool
marked marks k l = slice_index marks (pattern_variables_most * l + k) == 1

-- it is one of these
unfoldable pub among : (k l : ℕ) → List (ℕ × ℕ) → Bool
among k l = any_of (λ x. (x.0 == k) && x.1 == l)

-- the lists that drive an element are marked beside others; t is the part of it under j ellipses
abbrev pub Marks : (work : List ℕ) (j t : ℕ) (old new : List ℕ) → Type 0
Marks work j t old new = (k l : ℕ) → k < pattern_variables_most → l < depth_most → marked new k l ≡ (marked old k l || among k l (drivers j (template_at work t)))

-- of the first n lists of a level none is marked
abbrev pub Unmarked : (marks : List ℕ) (l n : ℕ) → Type 0
Unmarked marks l n = (k : ℕ) → k < n → marked marks k l ≡ false

-- of the first n variables, those whose lists are marked under one index have their entries in a table
abbrev pub Keeps : (marks env : List ℕ) (n : ℕ) (kept : List ℕ) → Type 0
Keeps marks env n kept = (k : ℕ) → k < n → marked marks k 1 ≡ true → entry_at kept k ≡ entry_at env k

-- a table of the entries that move stands before copy i
pub record Goes (work env marks : List ℕ) (moving i : ℕ) (table : List ℕ) : Type 0 where
  pub kept : List ℕ
  pub keeps : Keeps marks env pattern_variables_most kept
  pub moves : Moving kept moving
  pub along : AlongAll work kept i table

-- one list more, where it is marked
unfoldable pub also_if : Bool → Driving → ℕ → Driving
also_if true x l = also x l
also_if false x l = x

-- of the first n lists, of these lengths, those that are marked, after others
unfoldable pub gathered : (mark : ℕ → Bool) (long : ℕ → ℕ) → Driving → ℕ → Driving
gathered mark long x zero = x
gathered mark long x (suc n) = gathered mark long (also_if (mark n) x (long n)) n

-- the marked lists of a level, after others
abbrev pub Gathers : (work env marks : List ℕ) (l n : ℕ) → (before after : Driving) → Type 0
Gathers work env marks l n x r = (w : ℕ) → r ≡ gathered (λ k. marked marks k l) (λ k. counts l (environment_at work env w k)) x n
