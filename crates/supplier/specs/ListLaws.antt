-- Laws of a text's lists, one for each way through the code: how many elements, what stands behind quote, which form.
use Rattle.std.specs.Prelude.{◌≡◌, refl, Bool, true, false, not, List, ℕ, ◌+◌, ◌≤◌, ◌<◌, ltb}
use Rattle.std.proofs.Math.Path.{sym, ap}
use Rattle.std.proofs.Common.{subst, ◌∙◌, arith, lt-ltb, le-ltb}
use Rattle.std.proofs.Math.Bool.{cond}
use Rattle.datum.specs.Datum.{Datum, constant_d, name_d, list_d, Data, none_d, more_d}
use Rattle.datum.specs.Datum as D
use Rattle.recipe.specs.Table.{kind_at}
use Rattle.recipe.specs.TreeFrom.{head_at, tail_at}
use Rattle.supplier.specs.Items.{DatumAt, DataAt, Held, HeldAll, PairAt}
use Rattle.supplier.specs.ItemsLaws.{pair-kind, none-kind, more-is, name-kind, name-datum, empty-datum, pair-datum, constant-datum}
use Rattle.supplier.specs.Walk.{quotes, form_of}

-- ---- counting: the list from place j on, of which n elements were passed

abbrev pub Counting : List ℕ → ℕ → ℕ → ℕ → Type 0
Counting ws i j n = (ds : Data) → DataAt ws i ds → (es : Data) × (DataAt ws j es × (D.count ds ≡ n + D.count es))

pub counting-start : (ws : List ℕ) (i : ℕ) → Counting ws i i 0
counting-start ws i ds h = (ds, (h, omega arith))

module _ (ws : List ℕ) (i j n : ℕ) (c : Counting ws i j n) where
  pub counting-next : (k : ℕ) → k ≡ kind_at ws j → k ≡ 4 → (t : ℕ) → t ≡ tail_at ws j → Counting ws i t (n + 1)
  unfolding D.count
  counting-next k kind pair t e ds h =
      let p = c ds h in
      let q = pair-kind ws j p.0 p.1.0 (sym kind ∙ pair) in
      (q.rest, (subst (λ m. DataAt ws m q.rest) (sym e) q.tail, p.1.1 ∙ ap (λ (es : Data). n + D.count es) q.is ∙ omega arith))

  pub counting-end : (k : ℕ) → k ≡ kind_at ws j → (k ≡ 4 → ⊥) → (ds : Data) → DataAt ws i ds → n ≡ D.count ds
  unfolding D.count
  counting-end k kind other ds h =
      let p = c ds h in
      let z : D.count p.0 ≡ 0 = ap D.count (none-kind ws j p.0 p.1.0 (λ e. other (kind ∙ e))) in
      omega (arith, p.1.1, z)

-- ---- what stands behind quote

quotes-not : (ds : Data) → (D.count ds ≡ 1 → ⊥) → quotes ds ≡ false
unfolding quotes D.count
quotes-not none_d h = refl
quotes-not (more_d (constant_d a) ds) h = refl
quotes-not (more_d (name_d n) none_d) h = absurd (h refl)
quotes-not (more_d (name_d n) (more_d e ds)) h = refl
quotes-not (more_d (list_d es) none_d) h = absurd (h refl)
quotes-not (more_d (list_d es) (more_d e ds)) h = refl

is_constant_d : Datum → Bool
is_constant_d (constant_d a) = true
is_constant_d (name_d n) = false
is_constant_d (list_d ds) = false

-- one element
quotes-one : (d : Datum) (ds : Data) → D.count (more_d d ds) ≡ 1 → quotes (more_d d ds) ≡ not (is_constant_d d)
unfolding quotes D.count is_constant_d
quotes-one (constant_d a) ds h = refl
quotes-one (name_d n) none_d h = refl
quotes-one (name_d n) (more_d e ds) h = absurd (omega (arith, h))
quotes-one (list_d es) none_d h = refl
quotes-one (list_d es) (more_d e ds) h = absurd (omega (arith, h))

-- a list that is not empty begins with a pair
pub count-pair : (ws : List ℕ) (i : ℕ) (ds : Data) → DataAt ws i ds → 1 ≤ D.count ds → kind_at ws i ≡ 4
unfolding D.count
count-pair ws i none_d h l = absurd (omega arith)
count-pair ws i (more_d d ds) h l = more-is ws i d ds h

-- by the count n of what stands behind quote, its head `at`, and the head's kind k
module _ (ws : List ℕ) (i n : ℕ) (counts : (ds : Data) → DataAt ws i ds → n ≡ D.count ds) where
  abbrev Quotes : Bool → Type 0
  Quotes q = (ds : Data) → DataAt ws i ds → q ≡ quotes ds

  pub quotes-other : (n ≡ 1 → ⊥) → Quotes false
  quotes-other c ds o = sym (quotes-not ds (λ e. c (counts ds o ∙ e)))

  module _ (one : n ≡ 1) (at : ℕ) (a : at ≡ head_at ws i) where
    one-pair : (ds : Data) → DataAt ws i ds → PairAt ws i ds
    one-pair ds o = pair-kind ws i ds o (count-pair ws i ds o (omega (arith, counts ds o, one)))

    one_at : (ds : Data) (o : DataAt ws i ds) → DatumAt ws at (one-pair ds o).first
    one_at ds o = subst (λ j. DatumAt ws j (one-pair ds o).first) (sym a) (one-pair ds o).head

    pub one-held : HeldAll ws i → Held ws at
    one-held h = ((one-pair h.0 h.1).first, one_at h.0 h.1)

    one-quotes : (ds : Data) (o : DataAt ws i ds) (d : Datum) → (one-pair ds o).first ≡ d → not (is_constant_d d) ≡ quotes ds
    one-quotes ds o d e =
        let p = one-pair ds o in
        let m : ds ≡ more_d d p.rest = p.is ∙ ap (λ x. more_d x p.rest) e in
        sym (ap quotes m ∙ quotes-one d p.rest (ap D.count (sym m) ∙ sym (counts ds o) ∙ one))

    module _ (k : ℕ) (kind : k ≡ kind_at ws at) where
      pub quotes-at-name : k ≡ 3 → Quotes true
      unfolding is_constant_d
      quotes-at-name e ds o = one-quotes ds o (name_d (head_at ws at)) (name-datum ws at _ (one_at ds o) (sym kind ∙ e)).0

      pub quotes-at-empty : k ≡ 0 → Quotes true
      unfolding is_constant_d
      quotes-at-empty e ds o = one-quotes ds o (list_d none_d) (empty-datum ws at _ (one_at ds o) (sym kind ∙ e))

      pub quotes-at-pair : k ≡ 4 → Quotes true
      unfolding is_constant_d
      quotes-at-pair e ds o = let l = pair-datum ws at _ (one_at ds o) (sym kind ∙ e) in one-quotes ds o (list_d l.elements) l.is_list

      pub quotes-at-constant : (k ≡ 0 → ⊥) → (k ≡ 4 → ⊥) → (k ≡ 3 → ⊥) → Quotes false
      unfolding is_constant_d
      quotes-at-constant e f g ds o =
          let l = constant-datum ws at _ (one_at ds o) (λ q. e (kind ∙ q)) (λ q. f (kind ∙ q)) (λ q. g (kind ∙ q)) in
          one-quotes ds o (constant_d l.constant) l.is

-- ---- the form that an element heads

no-form : (ws : List ℕ) (i : ℕ) (d : Datum) → DatumAt ws i d → (kind_at ws i ≡ 3 → ⊥) → form_of d ≡ 3
unfolding form_of
no-form ws i (constant_d a) h f = refl
no-form ws i (name_d n) h f = absurd (f (name-kind ws i n h))
no-form ws i (list_d ds) h f = refl

-- by its kind k, and its name n
module _ (ws : List ℕ) (i k : ℕ) (kind : k ≡ kind_at ws i) where
  abbrev Form : ℕ → Type 0
  Form f = (d : Datum) → DatumAt ws i d → f ≡ form_of d

  pub form-other : (k ≡ 3 → ⊥) → Form 3
  form-other f d o = sym (no-form ws i d o (λ e. f (kind ∙ e)))

  module _ (e : k ≡ 3) (n : ℕ) (a : n ≡ head_at ws i) where
    form-name : (d : Datum) → DatumAt ws i d → cond (ltb n 3) n 3 ≡ form_of d
    unfolding form_of
    form-name d o = ap (λ m. cond (ltb m 3) m 3) a ∙ sym (ap form_of (name-datum ws i d o (sym kind ∙ e)).0)

    pub form-low : n < 3 → Form n
    form-low l d o = rw (lt-ltb n 3 l) at (form-name d o)

    pub form-high : 3 ≤ n → Form 3
    form-high l d o = rw (le-ltb n 3 l) at (form-name d o)
