-- Each item of data whose words stand in a table has the words of its kind.
use Rattle.std.specs.Prelude.{◌≡◌, true, ◌||◌, ℕ, suc, ◌+◌, ◌-◌, ◌*◌, ◌≤◌, ◌<◌, eqb, length, drop}
use Rattle.std.proofs.Math.Path.{refl, ap}
use Rattle.std.proofs.Common.{sym, ◌∙◌, get_or-drop, drop-drop, drop_at}
use mathlib.Core.List.{List, [], ◌∷◌, ◌++◌, append_assoc}
use native.Mathlib.Omega.{arith}
use Rattle.std.proofs.Math.ListN.{get_or}
use Rattle.words.specs.Lists.{all_of}
use Rattle.words.specs.ListLaws.{all_append}
use Rattle.words.specs.TestLaws.{and_parts, and_both, within-is}
use Rattle.datum.specs.Constant.{is_constant}
use Rattle.datum.specs.Datum.{Datum, Data, constant_d, name_d, list_d, none_d, more_d, datum_items, data_items}
use Rattle.recipe.specs.Table.{by_kind, constant_of, kind_at, is_pair_item, is_item}
use Rattle.reading.specs.Numbering.{datum_words, data_words}
use Rattle.reading_layout.specs.Items.{fits, fit_all, no-empty, no_name, no-pair, item, items_of, items_of_all, datum-length, datum-positive, data-positive}

module _ (ws : List ℕ) where
  -- ---- words from place i on

  -- word c of item i
  pub word_at : (i c : ℕ) (l : List ℕ) → drop (3 * i) ws ≡ l → get_or ws (3 * i + c) 0 ≡ get_or l c 0
  word_at i c l e = sym (get_or-drop (3 * i) ws c 0) ∙ ap (λ (m : List ℕ). get_or m c 0) e

  pub kind-at : (i : ℕ) (l : List ℕ) → drop (3 * i) ws ≡ l → kind_at ws i ≡ get_or l 0 0
  unfolding kind_at
  kind-at i l e = let z : 3 * i ≡ 3 * i + 0 = omega arith in ap (λ (m : ℕ). get_or ws m 0) z ∙ word_at i 0 l e

  pub behind : (i k : ℕ) (xs ys : List ℕ) → drop (3 * i) ws ≡ xs ++ ys → length xs ≡ 3 * k → drop (3 * (i + k)) ws ≡ ys
  behind i k xs ys e l =
      let m : 3 * (i + k) ≡ 3 * i + 3 * k = omega arith in
      ap (λ (m : ℕ). drop m ws) m ∙ sym (drop-drop (3 * k) (3 * i) ws) ∙ ap (drop (3 * k)) e ∙ drop_at xs ys (3 * k) l

  pub behind-one : (i k a b : ℕ) (ys : List ℕ) → drop (3 * i) ws ≡ k ∷ a ∷ b ∷ ys → drop (3 * suc i) ws ≡ ys
  behind-one i k a b ys e =
      let s : i + 1 ≡ suc i = omega arith in
      rw s at (behind i 1 (k ∷ a ∷ b ∷ []) ys e refl)

  -- a pair's head, and its tail
  pub head-words : (i : ℕ) (d : Datum) (ds : Data) (back : List ℕ) → drop (3 * i) ws ≡ data_words i (more_d d ds) ++ back
      → drop (3 * suc i) ws ≡ datum_words (suc i) d ++ (data_words (suc i + datum_items d) ds ++ back)
  unfolding data_words
  head-words i d ds back e =
      behind-one i _ _ _ _ e ∙ append_assoc (datum_words (suc i) d) (data_words (suc i + datum_items d) ds) back

  pub tail-words : (i : ℕ) (d : Datum) (ds : Data) (back : List ℕ) → drop (3 * i) ws ≡ data_words i (more_d d ds) ++ back
      → drop (3 * (suc i + datum_items d)) ws ≡ data_words (suc i + datum_items d) ds ++ back
  tail-words i d ds back e =
      behind (suc i) (datum_items d) (datum_words (suc i) d) _ (head-words i d ds back e) (datum-length (suc i) d)

  list-kind : (i : ℕ) (ds : Data) (back : List ℕ) → drop (3 * i) ws ≡ data_words i ds ++ back → (eqb (kind_at ws i) 0 || eqb (kind_at ws i) 4) ≡ true
  unfolding data_words
  list-kind i none_d back e = rw (kind-at i _ e)
  list-kind i (more_d d ds) back e = rw (kind-at i _ e)

  -- ---- items

  module _ (n : ℕ) where
    pair-good : (i a b : ℕ) → suc i ≤ a → a < n → suc i ≤ b → b < n → (eqb (kind_at ws b) 0 || eqb (kind_at ws b) 4) ≡ true
        → is_item ws n (item i 4 a b) ≡ true
    unfolding is_item by_kind is_pair_item item
    pair-good i a b p q r s k =
        and_both _ _ (within-is (suc i) (n - 1) a p (omega arith)) (and_both _ _ (within-is (suc i) (n - 1) b r (omega arith)) k)

    constant-good : (i k a b : ℕ) → is_constant (record { kind = k; first = a; second = b }) ≡ true → is_item ws n (item i k a b) ≡ true
    unfolding is_item by_kind item constant_of
    constant-good i k a b h = rw (no-empty k a b h, no_name k a b h, no-pair k a b h) h

    name-good : (i m : ℕ) → fits (name_d m) ≡ true → is_item ws n (item i 3 m 0) ≡ true
    unfolding is_item by_kind item fits
    name-good i m h = and_both _ _ h refl

    empty-good : (i : ℕ) → is_item ws n (item i 0 0 0) ≡ true
    unfolding is_item by_kind item
    empty-good i = refl

    mutual
      unfolding fits fit_all datum_items data_items datum_words items_of items_of_all all_of

      datum-good : (i : ℕ) (d : Datum) (back : List ℕ) → fits d ≡ true → drop (3 * i) ws ≡ datum_words i d ++ back → i + datum_items d ≤ n
          → all_of (is_item ws n) (items_of i d) ≡ true
      datum-good i (constant_d a) back h e l = and_both _ _ (constant-good i a.kind a.first a.second h) refl
      datum-good i (name_d m) back h e l = and_both _ _ (name-good i m h) refl
      datum-good i (list_d ds) back h e l = data-good i ds back h e l

      pub data-good : (i : ℕ) (ds : Data) (back : List ℕ) → fit_all ds ≡ true → drop (3 * i) ws ≡ data_words i ds ++ back → i + data_items ds ≤ n
          → all_of (is_item ws n) (items_of_all i ds) ≡ true
      data-good i none_d back h e l = and_both _ _ (empty-good i) refl
      data-good i (more_d d ds) back h e l =
          let j = suc i + datum_items d in
          let f = and_parts (fits d) (fit_all ds) h in
          let t = tail-words i d ds back e in
          let p = datum-positive d in
          let q = data-positive ds in
          and_both _ _ (pair-good i (suc i) j (omega arith) (omega arith) (omega arith) (omega arith) (list-kind j ds back t))
          (all_append (is_item ws n) (items_of (suc i) d) (items_of_all j ds)
          (datum-good (suc i) d (data_words j ds ++ back) f.0 (head-words i d ds back e) (omega arith))
          (data-good j ds back f.1 t (omega arith)))
