-- The items of data that reading numbers: three words each, and in the order of the words.
use Rattle.std.specs.Prelude.{◌≡◌, Bool, true, false, ◌&&◌, List, [], ◌∷◌, ◌++◌, ℕ, suc, ◌+◌, ◌*◌, ◌≤◌, eqb, ltb, length}
use Rattle.std.proofs.Math.Path.{refl}
use Rattle.std.proofs.Common.{sym, ap, subst, ◌∙◌, append_assoc, append-nil, arith, length-append, ne_eqb}
use Rattle.words.specs.Limits.{names_most}
use Rattle.words.specs.ListLaws.{never}
use Rattle.datum.specs.Constant.{is_constant}
use Rattle.datum.specs.Datum.{Datum, Data, constant_d, name_d, list_d, none_d, more_d, datum_items, data_items}
use Rattle.recipe.specs.Table.{Item, items}
use Rattle.reading.specs.Numbering.{datum_words, data_words}
pub use Rattle.reading.specs.NumberingLaws.{datum-length, data-length}

-- ---- constants that are ones, and names by number

unfoldable mutual
  pub fits : Datum → Bool
  fits (constant_d a) = is_constant a
  fits (name_d n) = ltb n names_most
  fits (list_d ds) = fit_all ds

  pub fit_all : Data → Bool
  fit_all none_d = true
  fit_all (more_d d ds) = fits d && fit_all ds

-- a constant's kind is that of no other item
module _ (k a b : ℕ) (h : is_constant (record { kind = k; first = a; second = b }) ≡ true) where
  other-kind : (j : ℕ) → is_constant (record { kind = j; first = a; second = b }) ≡ false → eqb k j ≡ false
  other-kind j n = ne_eqb k j (λ e. never (subst (λ i. is_constant (record { kind = i; first = a; second = b }) ≡ true) e h) n)

  pub no-empty : eqb k 0 ≡ false
  unfolding is_constant
  no-empty = other-kind 0 refl

  pub no_name : eqb k 3 ≡ false
  unfolding is_constant
  no_name = other-kind 3 refl

  pub no-pair : eqb k 4 ≡ false
  unfolding is_constant
  no-pair = other-kind 4 refl

pub datum-positive : (d : Datum) → 1 ≤ datum_items d
unfolding datum_items data_items
datum-positive (constant_d a) = omega arith
datum-positive (name_d n) = omega arith
datum-positive (list_d none_d) = omega arith
datum-positive (list_d (more_d d ds)) = omega arith

pub data-positive : (ds : Data) → 1 ≤ data_items ds
unfolding data_items
data-positive none_d = omega arith
data-positive (more_d d ds) = omega arith

-- ---- the items, placed from i

unfoldable pub item : ℕ → ℕ → ℕ → ℕ → Item
item i k a b = record { place = i; kind = k; first = a; second = b }

unfoldable mutual
  pub items_of : ℕ → Datum → List Item
  items_of i (constant_d a) = item i a.kind a.first a.second ∷ []
  items_of i (name_d n) = item i 3 n 0 ∷ []
  items_of i (list_d ds) = items_of_all i ds

  pub items_of_all : ℕ → Data → List Item
  items_of_all i none_d = item i 0 0 0 ∷ []
  items_of_all i (more_d d ds) = item i 4 (suc i) (suc i + datum_items d) ∷ (items_of (suc i) d ++ items_of_all (suc i + datum_items d) ds)

mutual
  unfolding datum_items data_items datum_words data_words items_of items_of_all items item

  -- before the items of any other words
  datum-before : (i : ℕ) (d : Datum) (ws : List ℕ) → items i (datum_words i d ++ ws) ≡ items_of i d ++ items (i + datum_items d) ws
  datum-before i (constant_d a) ws = let e : i + 1 ≡ suc i = omega arith in rw e
  datum-before i (name_d n) ws = let e : i + 1 ≡ suc i = omega arith in rw e
  datum-before i (list_d ds) ws = data-before i ds ws

  data-before : (i : ℕ) (ds : Data) (ws : List ℕ) → items i (data_words i ds ++ ws) ≡ items_of_all i ds ++ items (i + data_items ds) ws
  data-before i none_d ws = let e : i + 1 ≡ suc i = omega arith in rw e
  data-before i (more_d d ds) ws =
      let j = suc i + datum_items d in
      let e : j + data_items ds ≡ i + suc (datum_items d + data_items ds) = omega arith in
      let p : items (suc i) ((datum_words (suc i) d ++ data_words j ds) ++ ws) ≡ (items_of (suc i) d ++ items_of_all j ds) ++ items (j + data_items ds) ws
      = ap (items (suc i)) (append_assoc (datum_words (suc i) d) (data_words j ds) ws)
      ∙ datum-before (suc i) d (data_words j ds ++ ws)
      ∙ ap (λ l. items_of (suc i) d ++ l) (data-before j ds ws)
      ∙ sym (append_assoc (items_of (suc i) d) (items_of_all j ds) (items (j + data_items ds) ws)) in
      ap (λ l. item i 4 (suc i) j ∷ l) (p ∙ ap (λ m. (items_of (suc i) d ++ items_of_all j ds) ++ items m ws) e)

pub items-are : (i : ℕ) (ds : Data) → items i (data_words i ds) ≡ items_of_all i ds
unfolding items
items-are i ds = ap (items i) (sym (append-nil (data_words i ds))) ∙ data-before i ds [] ∙ append-nil (items_of_all i ds)
