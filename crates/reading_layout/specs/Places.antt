-- Every place of the items of data is referred to by exactly one word, but the first, to which none refers.
use Rattle.std.specs.Prelude.{◌≡◌, refl, true, false, List, [], ◌∷◌, ◌++◌, eqb, length}
use Rattle.std.proofs.Math.Path.{ap}
use Rattle.std.proofs.Common.{◌∙◌, eq-eqb, ne_eqb, eqb-true}
use Prim.Native.Nat.{ℕ, zero, suc, ◌+◌, ◌≤◌, ◌<◌}
use native.Mathlib.Omega.{arith}
use Rattle.std.proofs.lemmas.Bool.{eqb-false}
use Rattle.words.specs.Lists.{all_of, up_from}
use Rattle.words.specs.ListLaws.{either}
use Rattle.words.specs.TestLaws.{and_parts, and_both, or_left, or_right}
use Rattle.datum.specs.Datum.{Datum, Data, constant_d, name_d, list_d, none_d, more_d, datum_items, data_items}
use Rattle.recipe.specs.Table.{Item, items, references, occurrences, is_referred_once}
use Rattle.recipe.specs.ItemLaws.{items-length}
use Rattle.reading.specs.Numbering.{data_words}
use Rattle.reading_layout.specs.Items.{fits, fit_all, no-pair, item, items_of, items_of_all, items-are, data-length}

-- ---- how often a number occurs

occurrences-append : (p : ℕ) (xs ys : List ℕ) → occurrences p (xs ++ ys) ≡ occurrences p xs + occurrences p ys
unfolding occurrences
occurrences-append p [] ys = omega arith
occurrences-append p (x ∷ xs) ys =
    either (eqb p x) (λ e. rw e (omega (arith, occurrences-append p xs ys))) (λ e. rw e (occurrences-append p xs ys))

occurrences-first : (p x : ℕ) (xs : List ℕ) → occurrences p (x ∷ xs) ≡ occurrences p (x ∷ []) + occurrences p xs
occurrences-first p x xs = occurrences-append p (x ∷ []) xs

references-append : (xs ys : List Item) → references (xs ++ ys) ≡ references xs ++ references ys
unfolding references
references-append [] ys = refl
references-append (x ∷ xs) ys =
    either (eqb x.kind 4) (λ e. rw e (ap (λ l. x.first ∷ x.second ∷ l) (references-append xs ys))) (λ e. rw e (references-append xs ys))

up-append : (i m n : ℕ) → up_from i (m + n) ≡ up_from i m ++ up_from (i + m) n
unfolding up_from
up-append i zero n = let e : 0 + n ≡ n = omega arith in let f : i + 0 ≡ i = omega arith in rw (e, f)
up-append i (suc m) n =
    let e : suc m + n ≡ suc (m + n) = omega arith in
    let f : i + suc m ≡ suc i + m = omega arith in
    rw (e, f) (ap (λ l. i ∷ l) (up-append (suc i) m n))

up-below : (p i n : ℕ) → p < i → occurrences p (up_from i n) ≡ 0
unfolding up_from occurrences
up-below p i zero h = refl
up-below p i (suc n) h = rw (ne_eqb p i (omega arith)) (up-below p (suc i) n (omega arith))

up-once : (p i n : ℕ) → i ≤ p → p < i + n → occurrences p (up_from i n) ≡ 1
unfolding up_from occurrences
up-once p i zero l h = absurd (omega arith)
up-once p i (suc n) l h =
    either (eqb p i) (λ e. rw e (ap suc (up-below p (suc i) n (omega (arith, eqb-true p i e)))))
    (λ e. let k : suc i ≤ p = omega (arith, eqb-false p i e) in rw e (up-once p (suc i) n k (omega arith)))

-- ---- the first place and all references are all places

one : (p i k a b : ℕ) → eqb k 4 ≡ false → occurrences p (i ∷ references (item i k a b ∷ [])) ≡ occurrences p (up_from i 1)
unfolding up_from references item
one p i k a b h = rw h

up_first : (p i n : ℕ) → occurrences p (up_from i (suc n)) ≡ occurrences p (i ∷ []) + occurrences p (up_from (suc i) n)
unfolding up_from
up_first p i n = occurrences-first p i (up_from (suc i) n)

not_there : (p i : ℕ) → i < p → occurrences p (i ∷ []) ≡ 0
unfolding occurrences
not_there p i h = rw (ne_eqb p i (omega arith))

-- a pair before the items of its head, then those of its tail
module _ (p i m n : ℕ) (xs ys : List Item) where
  pair-places : occurrences p (suc i ∷ references xs) ≡ occurrences p (up_from (suc i) m)
      → occurrences p ((suc i + m) ∷ references ys) ≡ occurrences p (up_from (suc i + m) n)
      → occurrences p (i ∷ references (item i 4 (suc i) (suc i + m) ∷ (xs ++ ys))) ≡ occurrences p (up_from i (suc (m + n)))
  unfolding references item
  pair-places g h =
      let j = suc i + m in
      let r = references xs in
      let s = references ys in
      let t = references (xs ++ ys) in
      let v : occurrences p (up_from (suc i) (m + n)) ≡ occurrences p (up_from (suc i) m) + occurrences p (up_from j n)
      = ap (occurrences p) (up-append (suc i) m n) ∙ occurrences-append p (up_from (suc i) m) (up_from j n) in
      let w : occurrences p t ≡ occurrences p r + occurrences p s
      = ap (occurrences p) (references-append xs ys) ∙ occurrences-append p r s in
      omega (
        arith,
        g,
        h,
        up_first p i (m + n),
        v,
        w,
        occurrences-first p i (suc i ∷ j ∷ t),
        occurrences-first p (suc i) (j ∷ t),
        occurrences-first p j t,
        occurrences-first p (suc i) r,
        occurrences-first p j s,
      )

mutual
  unfolding fits fit_all datum_items data_items items_of items_of_all

  datum-places : (p i : ℕ) (d : Datum) → fits d ≡ true → occurrences p (i ∷ references (items_of i d)) ≡ occurrences p (up_from i (datum_items d))
  datum-places p i (constant_d a) h =
      one p i a.kind a.first a.second (no-pair a.kind a.first a.second h)
  datum-places p i (name_d n) h = one p i 3 n 0 refl
  datum-places p i (list_d ds) h = data-places p i ds h

  pub data-places : (p i : ℕ) (ds : Data) → fit_all ds ≡ true → occurrences p (i ∷ references (items_of_all i ds)) ≡ occurrences p (up_from i (data_items ds))
  data-places p i none_d h = one p i 0 0 0 refl
  data-places p i (more_d d ds) h =
      let f = and_parts (fits d) (fit_all ds) h in
      pair-places p i (datum_items d) (data_items ds) (items_of (suc i) d) (items_of_all (suc i + datum_items d) ds)
      (datum-places p (suc i) d f.0) (data-places p (suc i + datum_items d) ds f.1)

-- ---- ground 7's test

referred : (refs : List ℕ) (n : ℕ) → ((p : ℕ) → 1 ≤ p → p < n → occurrences p refs ≡ 1) → (i : ℕ) (ws : List ℕ) → i + length (items i ws) ≤ n
    → all_of (is_referred_once refs) (items i ws) ≡ true
unfolding items all_of is_referred_once
referred refs n f i [] h = refl
referred refs n f i (k ∷ []) h = refl
referred refs n f i (k ∷ a ∷ []) h = refl
referred refs n f i (k ∷ a ∷ b ∷ ws) h =
    and_both _ _ (either (eqb i 0) (λ e. or_left _ _ e)
    (λ e. or_right (eqb i 0) _ (eq-eqb _ _ (f i (omega (arith, eqb-false i 0 e)) (omega arith)))))
    (referred refs n f (suc i) ws (omega arith))

pub data-referred : (ds : Data) → fit_all ds ≡ true → all_of (is_referred_once (references (items 0 (data_words 0 ds)))) (items 0 (data_words 0 ds)) ≡ true
data-referred ds h =
    let ws = data_words 0 ds in
    let refs = references (items_of_all 0 ds) in
    let e = items-are 0 ds in
    let f : (p : ℕ) → 1 ≤ p → p < data_items ds → occurrences p refs ≡ 1 = λ p l u.
    omega (arith, data-places p 0 ds h, up-once p 0 (data_items ds) (omega arith) (omega arith), occurrences-first p 0 refs, not_there p 0 (omega arith)) in
    ap (λ xs. all_of (is_referred_once (references xs)) (items 0 ws)) e ∙ referred refs (data_items ds) f 0 ws (omega (arith, items-length 0 (data_items ds) ws (data-length 0 ds)))
