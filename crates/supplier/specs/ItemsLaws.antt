-- Laws of the items of a text: what each kind of item begins.
use Rattle.std.proofs.Math.Path.{◌≡◌, refl, subst}
use Rattle.std.proofs.Common.{sym, ap, ◌∙◌, arith, length-append, length-drop}
use Rattle.std.specs.Prelude.{true, List, ◌++◌, length, get_or}
use Prim.Native.Nat.{ℕ, suc, ◌+◌, ◌*◌, ◌≤◌, ◌<◌}
use Rattle.std.proofs.Math.ListN.{drop}
use borrow.Author.Tests.{eqb-false, ltb-true}
use Rattle.words.specs.Limits.{names_most}
use Rattle.words.specs.TestLaws.{and_parts}
use Rattle.datum.specs.Constant.{Constant, is_constant}
use Rattle.datum.specs.Datum.{Datum, Data, constant_d, name_d, list_d, none_d, more_d, datum_items, data_items}
use Rattle.recipe.specs.Table.{kind_at}
use Rattle.recipe.specs.TreeFrom.{head_at, tail_at}
use Rattle.reading.specs.Numbering.{datum_words, data_words}
use Rattle.reading_layout.specs.Items.{fits, fit_all, no-empty, no_name, no-pair, datum-length, data-length, datum-positive, data-positive}
use Rattle.reading_layout.specs.Good.{word_at, kind-at, head-words, tail-words}
use Rattle.supplier.specs.Items.{DatumAt, DataAt, Held, HeldAll, PairAt}

-- ---- a list and the datum that it is

module _ (ws : List ℕ) (i : ℕ) (ds : Data) where
  pub as-list : DatumAt ws i (list_d ds) → DataAt ws i ds
  unfolding datum_words fits
  as-list h = record { back = h.back; words = h.words; fine = h.fine }

  pub as-datum : DataAt ws i ds → DatumAt ws i (list_d ds)
  unfolding datum_words fits
  as-datum h = record { back = h.back; words = h.words; fine = h.fine }

-- ---- every item is within the table

module _ (ws : List ℕ) (i : ℕ) where
  within_by : (n : ℕ) (xs back : List ℕ) → drop (3 * i) ws ≡ xs ++ back → length xs ≡ 3 * n → 1 ≤ n → 3 * i + 3 * n ≤ length ws
  within_by n xs back e l h = omega (arith, ap length e ∙ length-append xs back, length-drop (3 * i) ws, l)

  pub datum-within : (d : Datum) → DatumAt ws i d → 3 * i + 3 * datum_items d ≤ length ws
  datum-within d h = within_by (datum_items d) (datum_words i d) h.back h.words (datum-length i d) (datum-positive d)

  pub data-within : (ds : Data) → DataAt ws i ds → 3 * i + 3 * data_items ds ≤ length ws
  data-within ds h = within_by (data_items ds) (data_words i ds) h.back h.words (data-length i ds) (data-positive ds)

  pub datum-in : (d : Datum) → DatumAt ws i d → 3 * i + 2 < length ws
  datum-in d h = omega (arith, datum-within d h, datum-positive d)

  pub data-in : (ds : Data) → DataAt ws i ds → 3 * i + 2 < length ws
  data-in ds h = omega (arith, data-within ds h, data-positive ds)

  -- ---- by kind

  second_word : (l : List ℕ) → drop (3 * i) ws ≡ l → head_at ws i ≡ get_or l 1 0
  unfolding head_at
  second_word l e = word_at ws i 1 l e

  third-word : (l : List ℕ) → drop (3 * i) ws ≡ l → tail_at ws i ≡ get_or l 2 0
  unfolding tail_at
  third-word l e = word_at ws i 2 l e

  -- a list: empty, or a pair
  pub none-kind : (ds : Data) → DataAt ws i ds → (kind_at ws i ≡ 4 → ⊥) → ds ≡ none_d
  unfolding data_words
  none-kind none_d h k = refl
  none-kind (more_d d ds) h k = absurd (k (kind-at ws i _ h.words))

  pub none_is : (ds : Data) → DataAt ws i ds → ds ≡ none_d → kind_at ws i ≡ 0
  unfolding data_words
  none_is none_d h e = kind-at ws i _ h.words
  none_is (more_d d ds) h e = let z : ◌≡◌ {A = ℕ} 0 1 = cc in absurd (omega arith)

  pub pair-kind : (ds : Data) → DataAt ws i ds → kind_at ws i ≡ 4 → PairAt ws i ds
  unfolding data_words fit_all
  pair-kind none_d h k = absurd (omega (arith, k, kind-at ws i _ h.words))
  pair-kind (more_d d ds) h k =
      let a : head_at ws i ≡ suc i = second_word _ h.words in
      let b : tail_at ws i ≡ suc i + datum_items d = third-word _ h.words in
      let f = and_parts (fits d) (fit_all ds) h.fine in
      record {
        first = d;
        rest = ds;
        is = refl;
        head = record {
          back = data_words (suc i + datum_items d) ds ++ h.back;
          words = subst (λ j. drop (3 * j) ws ≡ datum_words j d ++ (data_words (suc i + datum_items d) ds ++ h.back)) (sym a) (head-words ws i d ds h.back h.words);
          fine = f.0;
        };
        tail = record {
          back = h.back;
          words = subst (λ j. drop (3 * j) ws ≡ data_words j ds ++ h.back) (sym b) (tail-words ws i d ds h.back h.words);
          fine = f.1;
        };
        head_is = a;
        tail_is = b;
      }

  -- what a datum is, by the kind of its first item
  pub record ConstantAt (d : Datum) : Type 0 where
    pub constant : Constant
    pub is : d ≡ constant_d constant
    pub good : is_constant constant ≡ true
    pub kind : kind_at ws i ≡ constant.kind
    pub first : head_at ws i ≡ constant.first
    pub second : tail_at ws i ≡ constant.second

  pub more-is : (d : Datum) (ds : Data) → DataAt ws i (more_d d ds) → kind_at ws i ≡ 4
  unfolding data_words
  more-is d ds h = kind-at ws i _ h.words

  pub name-kind : (n : ℕ) → DatumAt ws i (name_d n) → kind_at ws i ≡ 3
  unfolding datum_words
  name-kind n h = kind-at ws i _ h.words

  pub name-datum : (d : Datum) → DatumAt ws i d → kind_at ws i ≡ 3 → (d ≡ name_d (head_at ws i)) × (head_at ws i < names_most)
  unfolding datum_words fits is_constant
  name-datum (constant_d a) h k = absurd (eqb-false a.kind 3 (no_name a.kind a.first a.second h.fine) (sym (kind-at ws i _ h.words) ∙ k))
  name-datum (name_d n) h k =
      let e : head_at ws i ≡ n = second_word _ h.words in
      (ap name_d (sym e), omega (arith, e, ltb-true n names_most h.fine))
  name-datum (list_d none_d) h k = absurd (omega (arith, k, none_is none_d (as-list ws i none_d h) refl))
  name-datum (list_d (more_d x xs)) h k = absurd (omega (arith, k, more-is x xs (as-list ws i (more_d x xs) h)))

  pub constant-datum : (d : Datum) → DatumAt ws i d → (kind_at ws i ≡ 0 → ⊥) → (kind_at ws i ≡ 4 → ⊥) → (kind_at ws i ≡ 3 → ⊥) → ConstantAt d
  unfolding datum_words fits
  constant-datum (constant_d a) h e f g =
      record { constant = a; is = refl; good = h.fine; kind = kind-at ws i _ h.words; first = second_word _ h.words; second = third-word _ h.words }
  constant-datum (name_d n) h e f g = absurd (g (kind-at ws i _ h.words))
  constant-datum (list_d none_d) h e f g = absurd (e (none_is none_d (as-list ws i none_d h) refl))
  constant-datum (list_d (more_d x xs)) h e f g = absurd (f (more-is x xs (as-list ws i (more_d x xs) h)))

  pub empty-datum : (d : Datum) → DatumAt ws i d → kind_at ws i ≡ 0 → d ≡ list_d none_d
  unfolding datum_words fits is_constant
  empty-datum (constant_d a) h k = absurd (eqb-false a.kind 0 (no-empty a.kind a.first a.second h.fine) (sym (kind-at ws i _ h.words) ∙ k))
  empty-datum (name_d n) h k = absurd (omega (arith, k, kind-at ws i _ h.words))
  empty-datum (list_d none_d) h k = refl
  empty-datum (list_d (more_d x xs)) h k = absurd (omega (arith, k, more-is x xs (as-list ws i (more_d x xs) h)))

  pub record ListAt (d : Datum) : Type 0 where
    pub elements : Data
    pub is_list : d ≡ list_d elements
    pub list : DataAt ws i elements
    pub pair : PairAt ws i elements

  pub pair-datum : (d : Datum) → DatumAt ws i d → kind_at ws i ≡ 4 → ListAt d
  unfolding datum_words fits is_constant
  pair-datum (constant_d a) h k = absurd (eqb-false a.kind 4 (no-pair a.kind a.first a.second h.fine) (sym (kind-at ws i _ h.words) ∙ k))
  pair-datum (name_d n) h k = absurd (omega (arith, k, kind-at ws i _ h.words))
  pair-datum (list_d ds) h k = let l = as-list ws i ds h in record { elements = ds; is_list = refl; list = l; pair = pair-kind ds l k }

-- ---- in the code's shape: k is the kind of item i, `at` its head, `next` its tail

module _ (ws : List ℕ) (i : ℕ) where
  pub held_in : Held ws i → 3 * i + 2 < length ws
  held_in h = datum-in ws i h.0 h.1

  pub all_in : HeldAll ws i → 3 * i + 2 < length ws
  all_in h = data-in ws i h.0 h.1

  module _ (k : ℕ) (kind : k ≡ kind_at ws i) where
    pub name-held : Held ws i → k ≡ 3 → (n : ℕ) → n ≡ head_at ws i → n < names_most
    name-held h e n a = omega (arith, a, (name-datum ws i h.0 h.1 (sym kind ∙ e)).1)

    module _ (pair : k ≡ 4) where
      pub elements-held : Held ws i → HeldAll ws i
      elements-held h = let l = pair-datum ws i h.0 h.1 (sym kind ∙ pair) in (l.elements, l.list)

      -- a head is the next item
      pub head-held : HeldAll ws i → (at : ℕ) → at ≡ head_at ws i → Held ws at × (at ≡ suc i)
      head-held h at a =
          let p = pair-kind ws i h.0 h.1 (sym kind ∙ pair) in
          ((p.first, subst (λ j. DatumAt ws j p.first) (sym a) p.head), a ∙ p.head_is)

      -- a tail is a later one
      pub tail-held : HeldAll ws i → (next : ℕ) → next ≡ tail_at ws i → HeldAll ws next × (i < next)
      tail-held h next b =
          let p = pair-kind ws i h.0 h.1 (sym kind ∙ pair) in
          ((p.rest, subst (λ j. DataAt ws j p.rest) (sym b) p.tail), omega (arith, b, p.tail_is))
