-- Laws of counting references (ground 7): every item but item 0 is referred to by exactly one word.
use Rattle.std.specs.Prelude.{◌≡◌, Bool, true, false, cond, ◌&&◌, ◌||◌, set, replicate}
use Rattle.std.proofs.Math.Path.{refl}
use Rattle.std.proofs.Common.{sym, ap, ◌∙◌, add-one, get_or-set_same, get_or-set_other, eqb-true, eq-eqb, ne_eqb}
use Rattle.std.proofs.Math.Bool.{and-true, and_assoc}
use mathlib.Core.List.{List, [], ◌∷◌}
use Prim.Native.Nat.{ℕ, zero, suc, ◌+◌, ◌-◌, ◌*◌, ◌<◌, ◌≤◌}
use native.Mathlib.Omega.{arith}
use Rattle.std.specs.List.{between, list_all}
use Rattle.std.specs.Int.Bits.{bit_or, or_add_and, bit_xor, xor_add_and, xor_self}
use Rattle.std.proofs.lemmas.Nat.{and_le_l, and_le_r}
use Rattle.std.proofs.Math.Seq.{take-suc}
use Rattle.std.proofs.lemmas.Grind.{get_or_after_one}
use Rattle.std.proofs.lemmas.List.Folds.{list_all-append}
use Rattle.std.proofs.Math.Dec.{eqb}
use Rattle.std.proofs.Math.ListN.{length, get_or, take, drop, drop_of_length-le}
use Rattle.std.proofs.lemmas.List.{length-replicate, get_or-replicate, length-drop}
use Rattle.std.proofs.lemmas.Bool.{eqb-false}
use Rattle.words.specs.Lists.{all_of}
use Rattle.words.specs.TestLaws.{iff-eq, and_parts, and_both}
use Rattle.recipe.specs.Table.{Item, items, references, occurrences, kind_at, is_item, is_referred_once}
use Rattle.recipe.specs.ItemLaws.{item_at, items-length, items-drop}
use Rattle.recipe.specs.TreeFrom.{head_at, tail_at}
use Rattle.layout.specs.ItemTests.{all-step, all_end}

-- after has one more at each place for each time that it is among the references
abbrev pub Counted : (before after refs : List ℕ) → Type 0
Counted before after refs = (k : ℕ) → k < length before → get_or after k 0 ≡ get_or before k 0 + occurrences k refs

-- no count is above m
abbrev pub AtMost : ℕ → List ℕ → Type 0
AtMost m counts = (k : ℕ) → k < length counts → get_or counts k 0 ≤ m

-- each count is that of the table's references
abbrev pub Referred : (ws counts : List ℕ) → Type 0
Referred ws counts = (k : ℕ) → k < length counts → get_or counts k 0 ≡ occurrences k (references (items 0 ws))

-- each count of the first n but the very first is 1
unfoldable pub are_ones : List ℕ → ℕ → Bool
are_ones counts zero = true
are_ones counts (suc i) = are_ones counts i && (eqb i 0 || eqb (get_or counts i 0) 1)

-- each item's words are those of its kind, and each item but item 0 is referred to by exactly one word
abbrev pub items_good : List ℕ → ℕ → Bool
items_good ws n = all_of (is_item ws n) (items 0 ws) && all_of (is_referred_once (references (items 0 ws))) (items 0 ws)

-- ---- one reference

occurrences-one : (k x : ℕ) (xs : List ℕ) → occurrences k (x ∷ xs) ≡ occurrences k (x ∷ []) + occurrences k xs
unfolding occurrences
occurrences-one k x xs = by (eqb k x)
  where
    by : (b : Bool) → cond b (suc (occurrences k xs)) (occurrences k xs) ≡ cond b 1 0 + occurrences k xs
    by true = omega arith
    by false = omega arith

occurrences-least : (k x : ℕ) → occurrences k (x ∷ []) ≤ 1
unfolding occurrences
occurrences-least k x = by (eqb k x)
  where
    by : (b : Bool) → cond b 1 0 ≤ 1
    by true = omega arith
    by false = omega arith

pub counted-one : (counts : List ℕ) (x : ℕ) → x < length counts → Counted counts (set counts x (get_or counts x 0 + 1)) (x ∷ [])
unfolding occurrences
counted-one counts x l k h = by (eqb k x) refl
  where
    by : (b : Bool) → eqb k x ≡ b → get_or (set counts x (get_or counts x 0 + 1)) k 0 ≡ get_or counts k 0 + occurrences k (x ∷ [])
    by true e =
        let q : k ≡ x = eqb-true k x e in
        rw (e, q) (get_or-set_same counts x (get_or counts x 0 + 1) 0 l)
    by false e = rw e (get_or-set_other counts x k (get_or counts x 0 + 1) 0 (eqb-false k x e) ∙ omega arith)

pub counted_none : (counts : List ℕ) → Counted counts counts []
unfolding occurrences
counted_none counts k h = omega arith

-- no count yet
pub most-zero : (n : ℕ) → AtMost 0 (replicate n 0)
most-zero n k h = let l : k < n = omega (arith, length-replicate {A = ℕ} n 0) in omega (arith, get_or-replicate {A = ℕ} n k 0 0 l)

-- ---- one item

module _ (ws : List ℕ) (i : ℕ) where
  pub references-pair : kind_at ws i ≡ 4 → references (item_at ws i ∷ []) ≡ head_at ws i ∷ tail_at ws i ∷ []
  unfolding references item_at kind_at head_at tail_at
  references-pair k = rw k

  pub references-none : (kind_at ws i ≡ 4 → ⊥) → references (item_at ws i ∷ []) ≡ []
  unfolding references item_at kind_at
  references-none k = rw (ne_eqb (kind_at ws i) 4 k)

pub counted-two : (a b c : List ℕ) (x y : ℕ) → length b ≡ length a → Counted a b (x ∷ []) → Counted b c (y ∷ []) → Counted a c (x ∷ y ∷ [])
counted-two a b c x y e p q k h = omega (arith, p k h, q k (omega arith), occurrences-one k x (y ∷ []))

-- one count more at most
pub most-one : (a b : List ℕ) (x m : ℕ) → length b ≡ length a → Counted a b (x ∷ []) → AtMost m a → AtMost (m + 1) b
most-one a b x m e p q k h = let l : k < length a = omega arith in omega (arith, p k l, q k l, occurrences-least k x)

-- ---- all items, as a loop counts them

occurrences-item : (k : ℕ) (x : Item) (xs : List Item) → occurrences k (references (x ∷ xs)) ≡ occurrences k (references (x ∷ [])) + occurrences k (references xs)
unfolding references occurrences
occurrences-item k x xs = by (eqb x.kind 4)
  where
    by : (b : Bool) → occurrences k (cond b (x.first ∷ x.second ∷ references xs) (references xs)) ≡ occurrences k (cond b (x.first ∷ x.second ∷ []) []) + occurrences k (references xs)
    by true =
        occurrences-one k x.first (x.second ∷ references xs)
        ∙ omega (arith, occurrences-one k x.second (references xs), occurrences-one k x.first (x.second ∷ []))
    by false = omega arith

occurrences-two : (k : ℕ) (x : Item) → occurrences k (references (x ∷ [])) ≤ 2
unfolding references occurrences
occurrences-two k x = by (eqb x.kind 4)
  where
    by : (b : Bool) → occurrences k (cond b (x.first ∷ x.second ∷ []) []) ≤ 2
    by true = omega (arith, occurrences-one k x.first (x.second ∷ []), occurrences-least k x.first, occurrences-least k x.second)
    by false = omega arith

occurrences-most : (k : ℕ) (xs : List Item) → occurrences k (references xs) ≤ 2 * length xs
unfolding references occurrences
occurrences-most k [] = omega arith
occurrences-most k (x ∷ xs) = omega (arith, occurrences-item k x xs, occurrences-two k x, occurrences-most k xs)

-- counted so far and left to count, together, are all references
abbrev pub Counting : (ws : List ℕ) (i : ℕ) (counts : List ℕ) → Type 0
Counting ws i counts = (k : ℕ) → k < length counts → get_or counts k 0 + occurrences k (references (drop i (items 0 ws))) ≡ occurrences k (references (items 0 ws))

module _ (ws : List ℕ) (n : ℕ) (e : length ws ≡ 3 * n) where
  pub counting-start : (counts : List ℕ) → AtMost 0 counts → Counting ws 0 counts
  counting-start counts z k h = omega (arith, z k h)

  pub counting-most : (i : ℕ) (counts : List ℕ) → Counting ws i counts → AtMost (2 * n) counts
  counting-most i counts c k h = omega (arith, c k h, occurrences-most k (items 0 ws), items-length 0 n ws e)

  pub counting_more : (i : ℕ) (a b : List ℕ) → i < n → length b ≡ length a → Counting ws i a → Counted a b (references (item_at ws i ∷ [])) → Counting ws (i + 1) b
  counting_more i a b h f c d k m =
      let l : k < length a = omega arith in
      let s : occurrences k (references (drop i (items 0 ws))) ≡ occurrences k (references (item_at ws i ∷ [])) + occurrences k (references (drop (i + 1) (items 0 ws)))
      = rw (add-one, items-drop ws n i e h) (occurrences-item k (item_at ws i) (drop (suc i) (items 0 ws))) in
      omega (arith, c k l, d k l, s)

  pub counting-end : (counts : List ℕ) → Counting ws n counts → Referred ws counts
  unfolding references occurrences
  counting-end counts c k h =
      let d : drop n (items 0 ws) ≡ [] = drop_of_length-le (items 0 ws) {i = n} (omega (arith, items-length 0 n ws e)) in
      let s : get_or counts k 0 + occurrences k (references []) ≡ occurrences k (references (items 0 ws)) = rw d at (c k h) in
      omega (arith, s)

-- ---- the test of each count

-- no bit is set in either of two numbers only where both are 0
bit_or-zero : (a b : ℕ) → eqb (bit_or a b) 0 ≡ (eqb a 0 && eqb b 0)
bit_or-zero a b = iff-eq (eqb (bit_or a b) 0) (eqb a 0 && eqb b 0) (λ e. apart (eqb-true (bit_or a b) 0 e)) (λ e. together (and_parts (eqb a 0) (eqb b 0) e))
  where
    apart : bit_or a b ≡ 0 → (eqb a 0 && eqb b 0) ≡ true
    apart e =
        let p : a ≡ 0 = omega (arith, or_add_and a b, and_le_r a b) in
        let q : b ≡ 0 = omega (arith, or_add_and a b, and_le_l a b) in
        and_both (eqb a 0) (eqb b 0) (eq-eqb a 0 p) (eq-eqb b 0 q)

    together : (eqb a 0 ≡ true) × (eqb b 0 ≡ true) → eqb (bit_or a b) 0 ≡ true
    together p = rw (eqb-true a 0 p.0, eqb-true b 0 p.1)

-- no bit differs only where two numbers are equal
bit_xor-zero : (a b : ℕ) → eqb (bit_xor a b) 0 ≡ eqb a b
bit_xor-zero a b =
    iff-eq (eqb (bit_xor a b) 0) (eqb a b)
    (λ e. let z : bit_xor a b ≡ 0 = eqb-true (bit_xor a b) 0 e in eq-eqb a b (omega (arith, xor_add_and a b, and_le_l a b, and_le_r a b)))
    (λ e. rw (eqb-true a b e) (eq-eqb (bit_xor b b) 0 (xor_self b)))

-- the bits by which the counts passed are wrong, and of one count more
pub ones-more : (wrong i : ℕ) (counts : List ℕ) → 0 < i → eqb wrong 0 ≡ are_ones counts i → eqb (bit_or wrong (bit_xor (get_or counts i 0) 1)) 0 ≡ are_ones counts (i + 1)
unfolding are_ones
ones-more wrong i counts z e =
    let nz : i ≡ 0 → ⊥ = λ q. omega arith in
    rw (add-one, bit_or-zero, bit_xor-zero, e, ne_eqb i 0 nz)

-- all counts but the first, as a part of the table
ones-behind : (counts : List ℕ) (m : ℕ) → m < length counts → are_ones counts (suc m) ≡ list_all (λ x. eqb x 1) (take m (drop 1 counts))
unfolding are_ones
ones-behind counts zero h = refl
ones-behind counts (suc m) h =
    let l : m < length (drop 1 counts) = omega (arith, length-drop 1 counts) in
    let at : get_or (drop 1 counts) m 0 ≡ get_or counts (suc m) 0 = let e : 1 + m ≡ suc m = omega arith in rw e at (get_or_after_one counts m 0) in
    let some : suc m ≡ 0 → ⊥ = λ z. omega arith in
    rw (take-suc (drop 1 counts) m 0 l, list_all-append, at, and-true, ne_eqb (suc m) 0 some) (ap (λ (b : Bool). b && eqb (get_or counts (suc m) 0) 1) (ones-behind counts m (omega arith)))

pub ones-part : (counts : List ℕ) (n : ℕ) → 0 < n → n ≤ length counts → are_ones counts n ≡ list_all (λ x. eqb x 1) (between 1 n counts)
ones-part counts zero z l = absurd (omega arith)
ones-part counts (suc m) z l = let e : suc m - 1 ≡ m = omega arith in rw e (ones-behind counts m (omega arith))

module _ (ws : List ℕ) (n : ℕ) (e : length ws ≡ 3 * n) (counts : List ℕ) (c : Referred ws counts) (l : n ≤ length counts) where
  once : (i : ℕ) → i < n → is_referred_once (references (items 0 ws)) (item_at ws i) ≡ (eqb i 0 || eqb (get_or counts i 0) 1)
  unfolding is_referred_once item_at
  once i h = let k : i < length counts = omega arith in rw (c i k)

  once-below : (i : ℕ) → i ≤ n → all_of (is_referred_once (references (items 0 ws))) (items 0 ws) ≡ (are_ones counts i && all_of (is_referred_once (references (items 0 ws))) (drop i (items 0 ws)))
  unfolding are_ones
  once-below zero h = refl
  once-below (suc i) h =
      let F = is_referred_once (references (items 0 ws)) in
      let k : i < n = omega arith in
      let s : all_of F (drop i (items 0 ws)) ≡ ((eqb i 0 || eqb (get_or counts i 0) 1) && all_of F (drop (suc i) (items 0 ws))) = rw (add-one, once i k) at (all-step F ws n e i k) in
      once-below i (omega arith) ∙ rw s (sym (and_assoc (are_ones counts i) (eqb i 0 || eqb (get_or counts i 0) 1) (all_of F (drop (suc i) (items 0 ws)))))

  pub once-each : all_of (is_referred_once (references (items 0 ws))) (items 0 ws) ≡ are_ones counts n
  once-each =
      let F = is_referred_once (references (items 0 ws)) in
      let k : n ≤ n = omega arith in
      once-below n k ∙ rw (all_end F ws n e) (and-true (are_ones counts n))
