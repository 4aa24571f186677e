-- Entries of variables: four words each, which say where what a variable takes stands. Past the table there is none.
use Rattle.std.specs.Prelude.{◌≡◌, ℕ, ◌+◌, ◌-◌, ◌*◌, ◌%◌, ◌<◌, ◌≤◌, true, false, cond, List, [], ◌∷◌, take, ◌==◌, ◌≢◌}
use Rattle.words.specs.Limits.{pattern_variables_most}
use Rattle.expansion.specs.Match.{holds}
use Rattle.rule_cells.specs.Cells.{pattern_at}
use Rattle.environments.specs.declared.entries.Entry.{Entry}
use Rattle.environments.specs.Taken.{Taken}
use Rattle.environments.specs.Blocks.{slots, columns, word_in, Stands}

abbrev pub entries_words : ℕ
entries_words = 64

unfoldable pub entry_of : List ℕ → ℕ → Entry
entry_of env k = record { level = word_in env (4 * k); whole = word_in env (4 * k + 1); first = word_in env (4 * k + 2); second = word_in env (4 * k + 3) }

-- the columns of an entry, and what it stands for
unfoldable pub columns_of : Entry → List ℕ
columns_of x = take (x.level - 1) (x.first ∷ x.second ∷ [])

unfoldable pub EntryStands : (work : List ℕ) (base low high w : ℕ) → Entry → Taken → Type 0
EntryStands work base low high w x y = (1 ≤ x.level) × (x.level ≤ 3) × Stands work base low high w (columns_of x) x.whole y

-- entry k is x
pub record EntryStored (k : ℕ) (x : Entry) (old new : List ℕ) : Type 0 where
  pub here : entry_of new k ≡ x
  pub other : (m : ℕ) → (m ≢ k) → entry_of new m ≡ entry_of old m

-- entry k is x where it was none, and all others are as they were
pub record EntrySet (k : ℕ) (x : Entry) (old new : List ℕ) : Type 0 where
  pub here : k < pattern_variables_most → (entry_of old k).level ≡ 0 → entry_of new k ≡ x
  pub kept : ((entry_of old k).level ≢ 0) → entry_of new k ≡ entry_of old k
  pub other : (m : ℕ) → (m ≢ k) → entry_of new m ≡ entry_of old m

-- ---- a walk of the pattern: the entry of the next slot

-- of 32 bits
abbrev pub word32 : ℕ → ℕ
word32 n = n % 4294967296

-- what the next slot moves: the place of its word, or its column
unfoldable pub moving_of : Entry → ℕ
moving_of x = cond (x.level == 1) x.whole (cond (x.level == 2) x.first x.second)

pub record Words (x : Entry) : Type 0 where
  pub low : moving_of x < 4294967296
  pub some : x.level ≡ 0 → ⊥

-- s slots further on
unfoldable pub advance : Entry → ℕ → Entry
advance x s =
    record {
      level = x.level;
      whole = cond (x.level == 1) (word32 (x.whole + s)) x.whole;
      first = cond (x.level == 2) (word32 (x.first + s)) x.first;
      second = cond (x.level == 1) x.second (cond (x.level == 2) x.second (word32 (x.second + s)));
    }

-- the first slot of the element, where it is an ellipsis
unfoldable pub inside : List ℕ → Entry → Entry
inside work x =
    record {
      level = cond (x.level == 1) 2 3;
      whole = cond (x.level == 1) (word_in work x.whole) x.whole;
      first = cond (x.level == 1) 0 x.first;
      second = 0;
    }

-- the variable's own, where it is one
unfoldable pub found : List ℕ → Entry → Entry
found work x = record { level = x.level; whole = cond (x.level == 1) (word_in work x.whole) x.whole; first = x.first; second = x.second }

-- in these columns of the element, and so on
unfoldable pub within : List ℕ → Entry → List ℕ → Entry
within work x [] = found work x
within work x (s ∷ ss) = within work (advance (inside work x) s) ss

unfoldable pub placed : List ℕ → Entry → List ℕ → Entry
placed work x [] = x
placed work x (s ∷ ss) = within work (advance x s) ss

pub record Columned (work : List ℕ) (p : ℕ) (x : Entry) (old new : List ℕ) (r : Entry) : Type 0 where
  pub next : r ≡ advance x (slots (pattern_at work p))
  pub held : (k : ℕ) → k < pattern_variables_most → holds k (pattern_at work p) ≡ true → (entry_of old k).level ≡ 0 → entry_of new k ≡ placed work x (columns (pattern_at work p) k)
  pub kept : (k : ℕ) → ((entry_of old k).level ≢ 0) → entry_of new k ≡ entry_of old k
  pub other : (k : ℕ) → holds k (pattern_at work p) ≡ false → entry_of new k ≡ entry_of old k
