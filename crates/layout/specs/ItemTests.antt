-- Laws of the test of one item (ground 7), one for each way through `is_pair`, `is_leaf`, `takes_item` and `items_fit`.
use Rattle.std.specs.Prelude.{◌≡◌, Bool, ◌&&◌, List, ℕ, suc, ◌+◌, ◌-◌, ◌*◌, ◌<◌, ◌≤◌, ltb, length, drop}
use Rattle.std.proofs.Math.Path.{refl}
use Rattle.std.proofs.Common.{◌∙◌, add-one, drop_of_length-le}
use Rattle.std.proofs.Math.Bool.{true, false, and-true, and-false}
use native.Mathlib.Omega.{arith}
use Rattle.std.proofs.Math.Dec.{eqb}
use borrow.Author.Tests.{ne_eqb}
use Rattle.words.specs.Limits.{places_most, names_most}
use Rattle.words.specs.Lists.{within, all_of}
use Rattle.words.specs.TestLaws.{and-none-left, within-is, outside_below, outside_above}
use Rattle.datum.specs.Constant.{decimal_kind, is_constant}
use Rattle.datum.specs.ConstantLaws.{unused-no, kind-no}
use Rattle.recipe.specs.Table.{Item, items, by_kind, constant_of, kind_at, is_pair_item, is_item}
use Rattle.recipe.specs.ItemLaws.{item_at, items-length, items-drop}
use Rattle.recipe.specs.TreeFrom.{head_at, tail_at}
use Rattle.recipe.specs.Layout.{is_list_kind}

-- ---- a pair's references

module _ (ws : List ℕ) (n i : ℕ) where
  -- the test of a pair, by item i's words
  pair-words : is_pair_item ws n (item_at ws i) ≡ (within (suc i) (n - 1) (head_at ws i) && (within (suc i) (n - 1) (tail_at ws i) && is_list_kind (kind_at ws (tail_at ws i))))
  unfolding is_pair_item item_at head_at tail_at kind_at is_list_kind
  pair-words = refl

  pub head-low : head_at ws i ≤ i → is_pair_item ws n (item_at ws i) ≡ false
  head-low h = pair-words ∙ and-none-left _ _ (outside_below (suc i) (n - 1) (head_at ws i) (omega arith))

  pub head-high : i < n → n ≤ head_at ws i → is_pair_item ws n (item_at ws i) ≡ false
  head-high l h = pair-words ∙ and-none-left _ _ (outside_above (suc i) (n - 1) (head_at ws i) (omega arith))

  pub tail-low : tail_at ws i ≤ i → is_pair_item ws n (item_at ws i) ≡ false
  tail-low h = pair-words ∙ rw (outside_below (suc i) (n - 1) (tail_at ws i) (omega arith)) (and-false (within (suc i) (n - 1) (head_at ws i)))

  pub tail-high : i < n → n ≤ tail_at ws i → is_pair_item ws n (item_at ws i) ≡ false
  tail-high l h = pair-words ∙ rw (outside_above (suc i) (n - 1) (tail_at ws i) (omega arith)) (and-false (within (suc i) (n - 1) (head_at ws i)))

  pub references-good : i < head_at ws i → head_at ws i < n → i < tail_at ws i → tail_at ws i < n → is_pair_item ws n (item_at ws i) ≡ is_list_kind (kind_at ws (tail_at ws i))
  references-good a b c d =
      pair-words ∙ rw (within-is (suc i) (n - 1) (head_at ws i) (omega arith) (omega arith), within-is (suc i) (n - 1) (tail_at ws i) (omega arith) (omega arith))

-- ---- an item by its kind

module _ (ws : List ℕ) (n i : ℕ) where
  pub item-pair : kind_at ws i ≡ 4 → is_item ws n (item_at ws i) ≡ is_pair_item ws n (item_at ws i)
  unfolding is_item item_at kind_at by_kind
  item-pair k = rw k

  pub item-decimal : kind_at ws i ≡ decimal_kind → is_item ws n (item_at ws i) ≡ within 1 places_most (tail_at ws i)
  unfolding is_item item_at kind_at tail_at by_kind constant_of is_constant
  item-decimal k = rw k

  -- unused words are 0
  pub item-unused : (kind_at ws i ≡ 4 → ⊥) → (kind_at ws i ≡ decimal_kind → ⊥) → (tail_at ws i ≡ 0 → ⊥) → is_item ws n (item_at ws i) ≡ false
  unfolding is_item item_at kind_at head_at tail_at by_kind constant_of
  item-unused k d t = by (eqb (kind_at ws i) 0) refl (eqb (kind_at ws i) 3) refl
    where
      by : (a : Bool) → eqb (kind_at ws i) 0 ≡ a → (b : Bool) → eqb (kind_at ws i) 3 ≡ b → is_item ws n (item_at ws i) ≡ false
      by true p b q = rw (p, ne_eqb (tail_at ws i) 0 t) (and-false (eqb (head_at ws i) 0))
      by false p true q = rw (p, q, ne_eqb (tail_at ws i) 0 t) (and-false (ltb (head_at ws i) names_most))
      by false p false q = rw (p, q, ne_eqb (kind_at ws i) 4 k) (unused-no (constant_of (item_at ws i)) d t)

  module _ (t : tail_at ws i ≡ 0) where
    pub item-empty : kind_at ws i ≡ 0 → is_item ws n (item_at ws i) ≡ eqb (head_at ws i) 0
    unfolding is_item item_at kind_at head_at tail_at by_kind
    item-empty k = rw (k, t) (and-true _)

    pub item-integer : kind_at ws i ≡ 1 → is_item ws n (item_at ws i) ≡ true
    unfolding is_item item_at kind_at head_at tail_at by_kind constant_of is_constant
    item-integer k = rw (k, t)

    pub item-boolean : kind_at ws i ≡ 2 → is_item ws n (item_at ws i) ≡ ltb (head_at ws i) 2
    unfolding is_item item_at kind_at head_at tail_at by_kind constant_of is_constant
    item-boolean k = rw (k, t) (and-true _)

    pub item-name : kind_at ws i ≡ 3 → is_item ws n (item_at ws i) ≡ ltb (head_at ws i) names_most
    unfolding is_item item_at kind_at head_at tail_at by_kind
    item-name k = rw (k, t) (and-true _)

  pub item-other : 4 < kind_at ws i → (kind_at ws i ≡ decimal_kind → ⊥) → is_item ws n (item_at ws i) ≡ false
  unfolding is_item item_at kind_at head_at tail_at by_kind constant_of
  item-other k d =
      let a : kind_at ws i ≡ 0 → ⊥ = λ e. omega arith in
      let b : kind_at ws i ≡ 3 → ⊥ = λ e. omega arith in
      let c : kind_at ws i ≡ 4 → ⊥ = λ e. omega arith in
      rw (ne_eqb (kind_at ws i) 0 a, ne_eqb (kind_at ws i) 3 b, ne_eqb (kind_at ws i) 4 c) (kind-no (constant_of (item_at ws i)) (omega arith) d)

-- ---- a test of all items, as a loop makes it

module _ (f : Item → Bool) (ws : List ℕ) (n : ℕ) (e : length ws ≡ 3 * n) where
  pub all-step : (i : ℕ) → i < n → all_of f (drop i (items 0 ws)) ≡ (f (item_at ws i) && all_of f (drop (i + 1) (items 0 ws)))
  unfolding all_of
  all-step i h = rw (add-one, items-drop ws n i e h)

  pub all-misfit : (i : ℕ) → i < n → f (item_at ws i) ≡ false → all_of f (drop i (items 0 ws)) ≡ false
  all-misfit i h p = all-step i h ∙ rw p

  pub all_more : (i : ℕ) → i < n → f (item_at ws i) ≡ true → all_of f (drop i (items 0 ws)) ≡ all_of f (drop (i + 1) (items 0 ws))
  all_more i h p = all-step i h ∙ rw p

  pub all_end : all_of f (drop n (items 0 ws)) ≡ true
  unfolding all_of
  all_end = rw (drop_of_length-le (items 0 ws) {i = n} (omega (arith, items-length 0 n ws e)))
