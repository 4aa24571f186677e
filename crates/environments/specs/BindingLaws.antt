-- Laws of binding a pattern's variables and of reading what they take, one for each way through the code.
use Rattle.std.specs.Prelude.{◌≡◌, ℕ, zero, suc, ◌+◌, ◌-◌, ◌^◌, ◌<◌, ◌≤◌, List, [], ◌∷◌, map, reverse, length, take, ◌≢◌, nat_lt}
use Rattle.std.proofs.Math.Path.{refl, sym, ap}
use Rattle.std.proofs.Common.{◌∙◌}
use native.Mathlib.Omega.{arith}
use borrow.Author.Tests.{lt-ltb, le-ltb, ltb-true, ltb-false}
use Rattle.words.specs.ListLaws.{either}
use Rattle.recipe.specs.Tree.{Tree, empty}
use Rattle.expansion.specs.Match.{holds}
use Rattle.arena.specs.Arena.{tree_at}
use Rattle.arena.specs.ListLaws.{tree_at-none}
use Rattle.rule_cells.specs.Cells.{pattern_at}
use Rattle.environments.specs.declared.fill.Free.{Free}
use Rattle.environments.specs.declared.entries.Entry.{Entry}
use Rattle.environments.specs.Taken.{Taken, one, many, tree_in, count, entry, takes}
use Rattle.environments.specs.Blocks.{slots, blocks, columns, word_in, slot_at, Stands, RowStands}
use Rattle.environments.specs.BlockLaws.{slot-in, slot-past, Within, columns-within, row_kept}
use Rattle.environments.specs.Fill.{Fillable, Filled}
use Rattle.environments.specs.FillLaws.{pattern-kept}
use Rattle.environments.specs.Columns.{entry_of, columns_of, EntryStands, word32, Words, moving_of, advance, inside, found, within, placed, Columned}
use Rattle.environments.specs.Binding.{Bindable, BoundTo}

-- ---- the entry of a row's word

-- columns that are read are words
stands-low : (work : List ℕ) (base low high w : ℕ) → high ≤ 4294967296 → (l : List ℕ) (x : ℕ) (y : Taken) → Stands work base low high w l x y → Stands work base low high w (map word32 l) x y
unfolding Stands
stands-low work base low high w h [] x y s = s
stands-low work base low high w h (s ∷ ss) x (one t) b = absurd b
stands-low work base low high w h (s ∷ ss) x (many n f) (c, l, m, each) = (
  c,
  l,
  m,
  λ i b.
      let e = each i b in
      let is : word32 s ≡ s = omega (arith, e.0) in
      rw is (e.0, stands-low work base low high w h ss _ (f i) e.1),
)

abbrev pub start : ℕ → Entry
start row = record { level = 1; whole = row; first = 0; second = 0 }

pub start-words : (row : ℕ) → row < 4294967296 → Words (start row)
unfolding moving_of
start-words row h = record { low = h; some = λ z. omega arith }

entry-stands : (work : List ℕ) (base low high w row : ℕ) → high ≤ 4294967296 → (l : List ℕ) (n : ℕ) → Within n l → row + n ≤ 4294967296 → length l ≤ 3 → (y : Taken) → RowStands work base low high w row l y → EntryStands work base low high w (placed work (start row) l) y
unfolding RowStands EntryStands columns_of placed within found inside advance Within
entry-stands work base low high w row h [] n b r few y s = absurd s
entry-stands work base low high w row h (s ∷ []) n b r few y q =
    let m : word32 (row + s) ≡ row + s = omega arith in rw m (omega arith, omega arith, q)
entry-stands work base low high w row h (s ∷ a ∷ []) n b r few y q =
    let m : word32 (row + s) ≡ row + s = omega arith in
    let c : word32 (0 + a) ≡ word32 a = omega arith in
    rw (m, c) (omega arith, omega arith, stands-low work base low high w h (a ∷ []) _ y q)
entry-stands work base low high w row h (s ∷ a ∷ b ∷ []) n i r few y q =
    let m : word32 (row + s) ≡ row + s = omega arith in
    let c : word32 (0 + a) ≡ word32 a = omega arith in
    let d : word32 (0 + b) ≡ word32 b = omega arith in
    rw (m, c, d) (omega arith, omega arith, stands-low work base low high w h (a ∷ b ∷ []) _ y q)
entry-stands work base low high w row h (s ∷ a ∷ b ∷ c ∷ l) n i r few y q = absurd (omega arith)

-- ---- binding

module _ (old env : List ℕ) (p u top width : ℕ) (ok : Bindable old env p u top) (width_is : width ≡ 0 + slots (pattern_at old p)) where
  pub bind-small : top + width < 2 ^ 32
  bind-small = omega (arith, ok.room.small)

  pub bind-fillable : Fillable old p u (record { slot = top; top = top + width })
  bind-fillable =
      record {
        wrap = ok.wrap;
        pattern-below = ok.pattern-below;
        use-below = ok.use-below;
        wrap-below = ok.wrap-below;
        row = omega arith;
        room = record { fits = omega (arith, ok.room.fits); small = omega (arith, ok.room.small) };
      }

  pub bind-words : Words (start top)
  bind-words = start-words top (omega (arith, ok.room.small))

  module _ (new : List ℕ) (y : Free) (filled : Filled old new p u (record { slot = top; top = top + width }) y) (after : List ℕ) (r : Entry) (columned : Columned new p (start top) env after r) where
    same : pattern_at new p ≡ pattern_at old p
    same = pattern-kept old new top filled.before p ok.pattern-below

    ends : (w : ℕ) → w ≤ top → y.top ≡ top + (slots (pattern_at old p) + blocks (pattern_at old p) (tree_at old u w))
    ends w h = omega (arith, filled.top-is w h)

    pub bound-to : BoundTo old new after p u top y.top
    bound-to =
        record {
          end_is = ends;
          kept = filled.before;
          stands = λ w k h less held few.
              let end : y.top < 4294967296 = omega (arith, ends ok.wrap ok.wrap-below, ok.room.small) in
              let s = filled.stands w k h held in
              let wider : RowStands new u top y.top w top (columns (pattern_at old p) k) (takes (pattern_at old p) (tree_at old u w) k) =
              row_kept new new u (top + width) y.top w u top y.top (omega arith) (omega arith) (omega arith) (λ v l. refl) (λ v l m. refl) top _ (slots (pattern_at old p)) _ (columns-within (pattern_at old p) k held) (λ v l m. refl) s in
              let at : entry_of after k ≡ placed new (start top) (columns (pattern_at old p) k) =
              columned.held k less (ap (holds k) same ∙ held) (ok.unset k) ∙ ap (λ q. placed new (start top) (columns q k)) same in
              rw at (entry-stands new u top y.top w top (omega arith) (columns (pattern_at old p) k) (slots (pattern_at old p)) (columns-within (pattern_at old p) k held) (omega (arith, ok.room.small)) few _ wider);
        }

-- ---- reading

module _ (work : List ℕ) (base low high w : ℕ) where
  abbrev In : List ℕ → ℕ → Taken → Type 0
  In l x y = Stands work base low high w l x y

  -- with more or fewer indices than columns there is no tree
  taken_none : (l is : List ℕ) (x : ℕ) (y : Taken) → (length is ≢ length l) → In l x y → tree_in (entry is y) ≡ empty
  unfolding Stands entry tree_in
  taken_none [] [] x y d h = absurd (d refl)
  taken_none [] (i ∷ is) x (one t) d h = refl
  taken_none [] (i ∷ is) x (many n f) d h = absurd h
  taken_none (s ∷ ss) [] x (one t) d h = absurd h
  taken_none (s ∷ ss) [] x (many n f) d h = refl
  taken_none (s ∷ ss) (i ∷ is) x (one t) d h = absurd h
  taken_none (s ∷ ss) (i ∷ is) x (many n f) d (c, l, m, each) =
      either (nat_lt i n)
      (λ b. rw b (taken_none ss is _ (f i) (λ e. d (ap suc e)) (each i (ltb-true i n b)).1))
      (λ b. rw b refl)

  taken-whole : (x : ℕ) (y : Taken) → In [] x y → (x ≤ base) × (tree_at work x w ≡ tree_in y)
  unfolding Stands tree_in
  taken-whole x (one t) h = h
  taken-whole x (many n f) h = absurd h

  count_none : (x : ℕ) (is : List ℕ) (y : Taken) → In [] x y → 0 ≡ count (entry is y)
  unfolding Stands entry count
  count_none x [] (one t) h = refl
  count_none x (i ∷ is) (one t) h = refl
  count_none x is (many n f) h = absurd h

  module _ (s : ℕ) (ss : List ℕ) (x : ℕ) where
    count-here : (y : Taken) → In (s ∷ ss) x y → word_in work x ≡ count y
    unfolding Stands count
    count-here (one t) h = absurd h
    count-here (many n f) h = h.0

    past-none : (i : ℕ) (is : List ℕ) (y : Taken) → word_in work x ≤ i → In (s ∷ ss) x y → entry (i ∷ is) y ≡ one empty
    unfolding Stands entry
    past-none i is (one t) b h = refl
    past-none i is (many n f) b h = rw (le-ltb i n (omega (arith, h.0))) refl

    -- an entry of a block
    inner-stands : (i : ℕ) (y : Taken) → i < word_in work x → In (s ∷ ss) x y → In ss (slot_at work x s i) (entry (i ∷ []) y)
    unfolding Stands entry
    inner-stands i (one t) b h = absurd h
    inner-stands i (many n f) b (c, l, m, each) =
        let less : i < n = omega arith in
        rw (← slot-in work x s i b, lt-ltb i n less) (each i less).1

  entry-two : (i j : ℕ) (y : Taken) → entry (j ∷ []) (entry (i ∷ []) y) ≡ entry (i ∷ j ∷ []) y
  unfolding entry
  entry-two i j (one t) = refl
  entry-two i j (many n f) = either (nat_lt i n) (λ b. rw b refl) (λ b. rw b refl)

  zero_is : (A : Tree) → A ≡ empty → (0 ≤ base) × (tree_at work 0 w ≡ A)
  zero_is A e = (omega arith, tree_at-none work w ∙ sym e)

  one-read : (s x j : ℕ) (y : Taken) → In (s ∷ []) x y → (slot_at work x s j ≤ base) × (tree_at work (slot_at work x s j) w ≡ tree_in (entry (j ∷ []) y))
  unfolding tree_in
  one-read s x j y h =
      either (nat_lt j (word_in work x))
      (λ b. taken-whole _ _ (inner-stands s [] x j y (ltb-true j _ b) h))
      (λ b.
      let past : word_in work x ≤ j = ltb-false j _ b in
      rw (← slot-past work x s j past) (zero_is _ (ap tree_in (past-none s [] x j [] y past h))))

  module _ (e : Entry) (y : Taken) (h : EntryStands work base low high w e y) where
    columns-are : (d : ℕ) → e.level - 1 ≡ d → In (take d (e.first ∷ e.second ∷ [])) e.whole y
    unfolding EntryStands columns_of
    columns-are d z = rw z at h.2

    columns-length : length (columns_of e) ≡ e.level - 1
    unfolding EntryStands columns_of
    columns-length = short (e.level - 1) (omega (arith, h.1))
      where
        short : (n : ℕ) → n ≤ 2 → length (take n (e.first ∷ e.second ∷ [])) ≡ n
        short zero l = refl
        short (suc zero) l = refl
        short (suc (suc zero)) l = refl
        short (suc (suc (suc n))) l = absurd (omega arith)

    pub read-unset : (d outer inner : ℕ) → e.level ≡ 0 → (0 ≤ base) × (tree_at work 0 w ≡ tree_in (entry (reverse (take d (inner ∷ outer ∷ []))) y))
    unfolding EntryStands
    read-unset d outer inner z = absurd (omega (arith, h.0))

    pub read-other : (d outer inner : ℕ) → d ≤ 2 → (e.level - 1 ≢ d) → (0 ≤ base) × (tree_at work 0 w ≡ tree_in (entry (reverse (take d (inner ∷ outer ∷ []))) y))
    unfolding EntryStands
    read-other d outer inner few n =
        zero_is _ (taken_none (columns_of e) (reverse (take d (inner ∷ outer ∷ []))) e.whole y (λ z. n (sym columns-length ∙ sym z ∙ indices d few)) h.2)
      where
        indices : (d : ℕ) → d ≤ 2 → length (reverse (take d (inner ∷ outer ∷ []))) ≡ d
        indices zero l = refl
        indices (suc zero) l = refl
        indices (suc (suc zero)) l = refl
        indices (suc (suc (suc n))) l = absurd (omega arith)

    pub read_whole : (d outer inner : ℕ) → e.level - 1 ≡ d → d ≡ 0 → (e.whole ≤ base) × (tree_at work e.whole w ≡ tree_in (entry (reverse (take d (inner ∷ outer ∷ []))) y))
    unfolding entry
    read_whole d outer inner z o = rw o (taken-whole e.whole y (columns-are 0 (z ∙ o)))

    pub read_one : (d outer inner : ℕ) → e.level - 1 ≡ d → d ≡ 1
        → (slot_at work e.whole e.first inner ≤ base) × (tree_at work (slot_at work e.whole e.first inner) w ≡ tree_in (entry (reverse (take d (inner ∷ outer ∷ []))) y))
    read_one d outer inner z o = rw o (one-read e.first e.whole inner y (columns-are 1 (z ∙ o)))

    module _ (d outer inner : ℕ) (z : e.level - 1 ≡ d) (o : d ≡ 2) where
      both-columns : In (e.first ∷ e.second ∷ []) e.whole y
      both-columns = columns-are 2 (z ∙ o)

      pub read_past : word_in work e.whole ≤ outer → (0 ≤ base) × (tree_at work 0 w ≡ tree_in (entry (reverse (take d (inner ∷ outer ∷ []))) y))
      unfolding tree_in
      read_past b = rw o (zero_is _ (ap tree_in (past-none e.first _ e.whole outer (inner ∷ []) y b both-columns)))

      pub read-two : outer < word_in work e.whole → (block : ℕ) → block ≡ slot_at work e.whole e.first outer
          → (slot_at work block e.second inner ≤ base) × (tree_at work (slot_at work block e.second inner) w ≡ tree_in (entry (reverse (take d (inner ∷ outer ∷ []))) y))
      read-two b block is =
          rw (o, is, ← entry-two outer inner y) (one-read e.second _ inner _ (inner-stands e.first _ e.whole outer y b both-columns))

    -- ---- counts

    module _ (outside inner : ℕ) (is : List ℕ) where
      pub copies-tree : e.level < 2 → 0 ≡ count (entry (reverse (take outside (inner ∷ is))) y)
      unfolding EntryStands
      copies-tree b = count_none e.whole _ y (columns-are 0 (omega (arith, h.0)))

      pub copies-list : (e.level < 2 → ⊥) → outside ≡ 0 → word_in work e.whole ≡ count (entry (reverse (take outside (inner ∷ is))) y)
      unfolding EntryStands entry
      copies-list b o =
          either (nat_lt e.level 3)
          (λ c. let l : e.level - 1 ≡ 1 = omega (arith, ltb-true e.level 3 c) in rw o (count-here _ _ e.whole y (columns-are 1 l)))
          (λ c. let l : e.level - 1 ≡ 2 = omega (arith, ltb-false e.level 3 c, h.1) in rw o (count-here _ _ e.whole y (columns-are 2 l)))

      module _ (o : outside ≡ 1) where
        pub copies-trees : (e.level < 2 → ⊥) → e.level < 3 → 0 ≡ count (entry (reverse (take outside (inner ∷ is))) y)
        unfolding count entry
        copies-trees b c =
            let l : e.level - 1 ≡ 1 = omega arith in
            let s = columns-are 1 l in
            rw o
            (either (nat_lt inner (word_in work e.whole))
            (λ t. count_none _ [] _ (inner-stands e.first [] e.whole inner y (ltb-true inner _ t) s))
            (λ t. ap count (sym (past-none e.first [] e.whole inner [] y (ltb-false inner _ t) s))))

        module _ (deep : e.level < 3 → ⊥) where
          two-columns : In (e.first ∷ e.second ∷ []) e.whole y
          unfolding EntryStands
          two-columns = columns-are 2 (omega (arith, h.1))

          pub copies-past : word_in work e.whole ≤ inner → 0 ≡ count (entry (reverse (take outside (inner ∷ is))) y)
          unfolding count
          copies-past b = rw o (ap count (sym (past-none e.first _ e.whole inner [] y b two-columns)))

          pub copies-inner : inner < word_in work e.whole → (block : ℕ) → block ≡ slot_at work e.whole e.first inner → word_in work block ≡ count (entry (reverse (take outside (inner ∷ is))) y)
          copies-inner b block i = rw (o, i) (count-here e.second [] _ _ (inner-stands e.first _ e.whole inner y b two-columns))
