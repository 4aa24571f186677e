-- Laws of marks: the lists that drive an element, marked and gathered by level, tell what they tell one after another.
use Rattle.std.specs.Prelude.{◌≡◌, Some, None, Ok, Err, ℕ, zero, suc, ◌+◌, ◌-◌, ◌*◌, ◌<◌, ◌≤◌, Bool, true, false, ◌&&◌, ◌||◌, List, [], ◌∷◌, ◌++◌, map, length, replicate, ◌==◌, ◌≢◌, nat_eq, nat_lt, slice_index, slice_index_or, slice_set}
use Rattle.std.proofs.Math.Path.{refl, sym, ap}
use Rattle.std.proofs.Common.{ap₂, subst, ◌∙◌, arith, get_or-set_same, get_or-set_other}
use Rattle.std.proofs.lemmas.Bool.{false≢true}
use borrow.Author.Tests.{eq-eqb, ne_eqb, eqb-true, eqb-false}
use Rattle.words.specs.Limits.{pattern_variables_most, depth_most}
use Rattle.words.specs.Lists.{any_of}
use Rattle.words.specs.ListLaws.{either}
use Rattle.words.specs.TestLaws.{or_right, any_append}
use Rattle.words.specs.Each.{Each, none_of, also, each_append}
use Rattle.expansion.specs.Rules.{Template, variable_t, drivers}
use Rattle.arena.specs.Arena.{word_at, reference_at}
use Rattle.rule_cells.specs.Cells.{template_at}
use Rattle.rule_cells.specs.CellLaws.{template_at-variable}
use Rattle.environments.specs.Environment.{Taking, Environment, share_of, counts, entering, enter, lengths_by}
use Rattle.environments.specs.EnvironmentLaws.{entering-whole, entering-first}
use Rattle.environments.specs.Sound.{Plain, variable, insert, constant, empty, pairs, ellipsis, plain-pair, plain-ellipsis}
use Rattle.environments.specs.Entries.{entry_at, taking_of, environment_at, CountsCopies, Stored}
use Rattle.environments.specs.declared.environment.Entry.{Entry}
use Rattle.environments.specs.Lengths.{Driving, driving, after, Drives}
use Rattle.environments.specs.Lengths as lengths
use Rattle.environments.specs.TemplateCells.{pair_is, ellipsis-is}
use Rattle.environments.specs.declared.lengths.Differ.{Differ}
use Rattle.environments.specs.Marks.{mark_words, marked, among, Marks, Unmarked, Keeps, also_if, gathered, Gathers}

-- ---- plain cells

plain-variable : (k d : ℕ) → Plain (variable_t k d) → (k < pattern_variables_most) × (d ≤ depth_most)
plain-variable k d (variable a b) = (a, b)

module _ (work : List ℕ) (t tag : ℕ) (tag_is : tag ≡ word_at work t 1) (p : Plain (template_at work t)) where
  pub variable-low : (k d : ℕ) → tag ≡ 1 → d ≡ word_at work t 2 → k ≡ word_at work t 3 → (k < pattern_variables_most) × (d ≤ depth_most)
  variable-low k d e d-is k-is = rw (d-is, k-is) (plain-variable _ _ (subst Plain (template_at-variable work t (sym tag_is ∙ e)) p))

  pub parts-plain : (head rest : ℕ) → 6 ≤ tag → tag ≤ 7 → head ≡ reference_at work t 3 → rest ≡ reference_at work t 2 → Plain (template_at work head) × Plain (template_at work rest)
  parts-plain head rest low high head-is rest-is =
      either (tag == 7)
      (λ e. plain-ellipsis _ _ (subst Plain (ellipsis-is work t tag head rest tag_is head-is rest-is (eqb-true tag 7 e)) p))
      (λ e. plain-pair _ _ (subst Plain (pair_is work t tag head rest tag_is head-is rest-is (omega (arith, eqb-false tag 7 e))) p))

-- ---- marking

or-false : (a : Bool) → a ≡ (a || false)
or-false true = refl
or-false false = refl

or_assoc : (a b c : Bool) → ((a || b) || c) ≡ (a || (b || c))
or_assoc true b c = refl
or_assoc false b c = refl

-- a table of zeros has no mark
pub marks-none : (k l : ℕ) → marked (replicate mark_words 0) k l ≡ false
unfolding marked
marks-none k l = rw (zero-at mark_words (pattern_variables_most * l + k)) refl
  where
    zero-at : (n i : ℕ) → slice_index_or {A = ℕ} (replicate n 0) i 0 ≡ 0
    zero-at zero i = refl
    zero-at (suc n) zero = refl
    zero-at (suc n) (suc i) = zero-at n i

module _ (work : List ℕ) (j t : ℕ) where
  pub marks-nothing : (old : List ℕ) → drivers j (template_at work t) ≡ [] → Marks work j t old old
  unfolding among any_of
  marks-nothing old e k l h m = rw e (or-false (marked old k l))

  pub marks-one : (old : List ℕ) (k l : ℕ) → drivers j (template_at work t) ≡ (k, l) ∷ [] → length old ≡ mark_words → k < pattern_variables_most → l < depth_most
      → Marks work j t old (slice_set old (pattern_variables_most * l + k) 1)
  unfolding among any_of marked
  marks-one old k l e long a b m n c d =
      rw e
      (either (k == m)
      (λ x. either (l == n) (λ y. here x y) (λ y. rw (x, y) (other (λ z. eqb-false l n y (omega arith)))))
      (λ x. rw x (other (λ z. eqb-false k m x (omega arith)))))
    where
      at : ℕ → ℕ → Bool
      at m n = slice_index old (pattern_variables_most * n + m) == 1

      here : nat_eq k m ≡ true → (l == n) ≡ true → (slice_index (slice_set old (pattern_variables_most * l + k) 1) (pattern_variables_most * n + m) == 1) ≡ (slice_index old (pattern_variables_most * n + m) == 1 || ((k == m && l == n) || false))
      here x y =
          let s : pattern_variables_most * n + m ≡ pattern_variables_most * l + k = omega (arith, eqb-true k m x, eqb-true l n y) in
          rw (x, y, s, get_or-set_same old (pattern_variables_most * l + k) 1 0 (omega arith)) (sym (or_right (slice_index old (pattern_variables_most * l + k) == 1) true refl))

      other : (pattern_variables_most * n + m ≢ pattern_variables_most * l + k) → (slice_index (slice_set old (pattern_variables_most * l + k) 1) (pattern_variables_most * n + m) == 1) ≡ (slice_index old (pattern_variables_most * n + m) == 1 || false)
      other z = rw (get_or-set_other old (pattern_variables_most * l + k) (pattern_variables_most * n + m) 1 0 z) (or-false (slice_index old (pattern_variables_most * n + m) == 1))

  pub marks-both : (i head rest : ℕ) (old mid new : List ℕ) → drivers j (template_at work t) ≡ drivers i (template_at work head) ++ drivers j (template_at work rest)
      → Marks work i head old mid → Marks work j rest mid new → Marks work j t old new
  unfolding among
  marks-both i head rest old mid new e f g k l h m =
      g k l h m ∙ ap (λ (b : Bool). b || among k l (drivers j (template_at work rest))) (f k l h m)
      ∙ or_assoc (marked old k l) (among k l (drivers i (template_at work head))) (among k l (drivers j (template_at work rest)))
      ∙ ap (λ (b : Bool). marked old k l || b) (sym (any_append (λ x. (x.0 == k) && x.1 == l) (drivers i (template_at work head)) (drivers j (template_at work rest))) ∙ ap (among k l) (sym e))

-- ---- going through the marks of a level

pub unmarked-more : (marks : List ℕ) (l n k at : ℕ) → n ≡ suc k → at ≡ pattern_variables_most * l + k → (slice_index marks at ≢ 1) → Unmarked marks l k → Unmarked marks l n
unfolding marked
unmarked-more marks l n k at n-is at-is off h m less =
    either (m == k)
    (λ e. rw (eqb-true m k e, ← at-is) (ne_eqb _ 1 off))
    (λ e. h m (omega (arith, eqb-false m k e)))

module _ (work env marks : List ℕ) (l n : ℕ) (x : Driving) where
  pub gather_none : n ≡ 0 → Gathers work env marks l n x x
  unfolding gathered
  gather_none e w = rw e refl

  module _ (k at : ℕ) (n-is : n ≡ suc k) (at-is : at ≡ pattern_variables_most * l + k) (r : Driving) where
    pub gather-marked : (c : ℕ) (y : Driving) → slice_index marks at ≡ 1 → CountsCopies work env k l c → y ≡ lengths.also x c → Gathers work env marks l k y r → Gathers work env marks l n x r
    unfolding gathered also_if marked
    gather-marked c y on c-is y-is g w = rw (n-is, ← at-is, on, ← c-is w, ← y-is) (g w)

    pub gather-unmarked : (slice_index marks at ≢ 1) → Gathers work env marks l k x r → Gathers work env marks l n x r
    unfolding gathered also_if marked
    gather-unmarked off g w = rw (n-is, ← at-is, ne_eqb _ 1 off) (g w)

-- nothing more tells, once two lists differ
gathered-differ : (p : ℕ → Bool) (f : ℕ → ℕ) (d : Differ) (n : ℕ) → gathered p f (Err d) n ≡ Err d
unfolding gathered also_if lengths.also
gathered-differ p f d zero = refl
gathered-differ p f d (suc n) = either (p n) (λ t. rw t (gathered-differ p f d n)) (λ t. rw t (gathered-differ p f d n))

pub gather-differ : (work env marks : List ℕ) (l n : ℕ) (d : Differ) → Gathers work env marks l n (Err d) (Err d)
gather-differ work env marks l n d w = sym (gathered-differ _ _ d n)

-- ---- keeping the entries that move

module _ (marks env : List ℕ) (k at : ℕ) (at-is : at ≡ pattern_variables_most * 1 + k) (old : List ℕ) (h : Keeps marks env k old) where
  pub keeps-more : (x : Entry) (new : List ℕ) → x ≡ entry_at env k → Stored k x old new → Keeps marks env (k + 1) new
  keeps-more x new x-is s m l on =
      either (m == k)
      (λ e. rw (eqb-true m k e) (s.here ∙ x-is))
      (λ e. s.other m (eqb-false m k e) ∙ h m (omega (arith, eqb-false m k e)) on)

  pub keeps-skip : (slice_index marks at ≢ 1) → Keeps marks env (k + 1) old
  unfolding marked
  keeps-skip off m l on =
      either (m == k)
      (λ e. absurd (off (rw at-is (eqb-true _ 1 (subst (λ (j : ℕ). (slice_index marks (pattern_variables_most * 1 + j) == 1) ≡ true) (eqb-true m k e) on)))))
      (λ e. h m (omega (arith, eqb-false m k e)) on)

-- ---- gathering: neither order nor repetition tells

also_turned : (x : Driving) (a b : ℕ) → lengths.also (lengths.also x a) b ≡ lengths.also (lengths.also x b) a
unfolding lengths.also
also_turned (Ok None) a b =
    either (a == b) (λ t. rw (eqb-true a b t) refl) (λ t. rw (t, ne_eqb b a (λ z. eqb-false a b t (sym z))) refl)
also_turned (Ok (Some c)) a b =
    either (c == a)
    (λ t. either (c == b) (λ u. rw (t, u, t) refl) (λ u. rw (t, u) refl))
    (λ t. either (c == b) (λ u. rw (t, u, t) refl) (λ u. rw (t, u) refl))
also_turned (Err d) a b = refl

also-again : (x : Driving) (a : ℕ) → lengths.also (lengths.also x a) a ≡ lengths.also x a
unfolding lengths.also
also-again (Ok None) a = rw (eq-eqb a a refl) refl
also-again (Ok (Some c)) a = either (c == a) (λ t. rw t (rw t refl)) (λ t. rw t refl)
also-again (Err d) a = refl

also_if-also : (b : Bool) (x : Driving) (a l : ℕ) → also_if b (lengths.also x a) l ≡ lengths.also (also_if b x l) a
unfolding also_if
also_if-also true x a l = also_turned x a l
also_if-also false x a l = refl

gathered-also : (p : ℕ → Bool) (f : ℕ → ℕ) (x : Driving) (a n : ℕ) → gathered p f (lengths.also x a) n ≡ lengths.also (gathered p f x n) a
unfolding gathered
gathered-also p f x a zero = refl
gathered-also p f x a (suc n) = ap (λ (y : Driving). gathered p f y n) (also_if-also (p n) x a (f n)) ∙ gathered-also p f (also_if (p n) x (f n)) a n

also_if-cong : (b c : Bool) (x : Driving) (l m : ℕ) → b ≡ c → (b ≡ true → l ≡ m) → also_if b x l ≡ also_if c x m
unfolding also_if
also_if-cong true c x l m e h = ap₂ (λ (d : Bool) (j : ℕ). also_if d x j) e (h refl)
also_if-cong false c x l m e h = ap (λ (d : Bool). also_if d x m) e

-- the lengths of lists that are not marked do not tell
gathered-cong : (p q : ℕ → Bool) (f g : ℕ → ℕ) (x : Driving) (n : ℕ) → ((k : ℕ) → k < n → p k ≡ q k) → ((k : ℕ) → k < n → p k ≡ true → f k ≡ g k) → gathered p f x n ≡ gathered q g x n
unfolding gathered
gathered-cong p q f g x zero h m = refl
gathered-cong p q f g x (suc n) h m =
    gathered-cong p q f g (also_if (p n) x (f n)) n (λ k l. h k (omega arith)) (λ k l. m k (omega arith))
    ∙ ap (λ (y : Driving). gathered q g y n) (also_if-cong (p n) (q n) x (f n) (g n) (h n (omega arith)) (m n (omega arith)))

gathered_none : (p : ℕ → Bool) (f : ℕ → ℕ) (x : Driving) (n : ℕ) → ((k : ℕ) → k < n → p k ≡ false) → gathered p f x n ≡ x
unfolding gathered also_if
gathered_none p f x zero h = refl
gathered_none p f x (suc n) h = rw (h n (omega arith)) (gathered_none p f x n (λ k l. h k (omega arith)))

-- one mark more
gathered-more : (p q : ℕ → Bool) (f : ℕ → ℕ) (x : Driving) (k n : ℕ) → k < n → ((m : ℕ) → q m ≡ (k == m || p m)) → gathered q f x n ≡ lengths.also (gathered p f x n) (f k)
unfolding gathered also_if
gathered-more p q f x k zero h is = absurd (omega arith)
gathered-more p q f x k (suc n) h is =
    either (k == n)
    (λ t.
    let e : k ≡ n = eqb-true k n t in
    let on : q n ≡ true = is n ∙ rw t refl in
    let below : (m : ℕ) → m < n → q m ≡ p m = λ m l. is m ∙ rw (ne_eqb k m (λ z. omega arith)) refl in
    ap (λ (b : Bool). gathered q f (also_if b x (f n)) n) on ∙ gathered-cong q p f f (lengths.also x (f n)) n below (λ _ _ _. refl)
    ∙ either (p n)
    (λ u. rw (e, u) (sym (ap (λ (y : Driving). lengths.also y (f n)) (gathered-also p f x (f n) n) ∙ also-again (gathered p f x n) (f n) ∙ sym (gathered-also p f x (f n) n))))
    (λ u. rw (e, u) (gathered-also p f x (f n) n)))
    (λ t.
    let off : q n ≡ p n = is n ∙ rw t refl in
    ap (λ (b : Bool). gathered q f (also_if b x (f n)) n) off ∙ gathered-more p q f (also_if (p n) x (f n)) k n (omega (arith, eqb-false k n t)) is)

-- a variable and a level that have a mark
record Low (x : ℕ × ℕ) : Type 0 where
  few : x.0 < pattern_variables_most
  level : x.1 < depth_most

-- a mark of another level, and of this
marked-no : (a b : Bool) → ((a && false) || b) ≡ b
marked-no true b = refl
marked-no false b = refl

marked-yes : (a b : Bool) → ((a && true) || b) ≡ (a || b)
marked-yes true b = refl
marked-yes false b = refl

module _ (g : (ℕ × ℕ) → ℕ) where
  -- the lists of these, by level
  levels : List (ℕ × ℕ) → Driving → Driving
  levels ds x = gathered (λ k. among k 1 ds) (λ k. g (k, 1)) (gathered (λ k. among k 0 ds) (λ k. g (k, 0)) x pattern_variables_most) pattern_variables_most

  levels-more : (k l : ℕ) (ds : List (ℕ × ℕ)) (x : Driving) → k < pattern_variables_most → l < depth_most → levels ((k, l) ∷ ds) x ≡ lengths.also (levels ds x) (g (k, l))
  unfolding levels among any_of
  levels-more k zero ds x h m =
      gathered-cong _ (λ i. among i 1 ds) _ (λ i. g (i, 1)) _ pattern_variables_most (λ i _. marked-no (k == i) _) (λ _ _ _. refl)
      ∙ ap (λ (y : Driving). gathered (λ i. among i 1 ds) (λ i. g (i, 1)) y pattern_variables_most) (gathered-more (λ i. among i 0 ds) _ _ x k pattern_variables_most h (λ i. marked-yes (k == i) _))
      ∙ gathered-also _ _ _ _ pattern_variables_most
  levels-more k (suc zero) ds x h m =
      ap (λ (y : Driving). gathered (λ i. among i 1 ((k, 1) ∷ ds)) (λ i. g (i, 1)) y pattern_variables_most)
      (gathered-cong _ (λ i. among i 0 ds) _ (λ i. g (i, 0)) x pattern_variables_most (λ i _. marked-no (k == i) _) (λ _ _ _. refl))
      ∙ gathered-more (λ i. among i 1 ds) _ _ _ k pattern_variables_most h (λ i. marked-yes (k == i) _)
  levels-more k (suc (suc l)) ds x h m = absurd (omega arith)

  levels-after : {ds : List (ℕ × ℕ)} (x : Driving) → Each Low ds → levels ds x ≡ after x (map g ds)
  unfolding levels after among any_of
  levels-after x none_of = gathered_none _ _ _ pattern_variables_most (λ k h. refl) ∙ gathered_none _ _ x pattern_variables_most (λ k h. refl)
  levels-after x (also {x = d} {xs = ds} f fs) =
      levels-more d.0 d.1 ds x f.few f.level
      ∙ sym (ap (λ (y : Driving). gathered (λ k. among k 1 ds) (λ k. g (k, 1)) y pattern_variables_most) (gathered-also _ _ x (g d) pattern_variables_most) ∙ gathered-also _ _ _ (g d) pattern_variables_most)
      ∙ levels-after (lengths.also x (g d)) fs

low-drivers : (j : ℕ) {t : Template} → Plain t → Each Low (drivers j t)
unfolding drivers
low-drivers j (variable {k} {d} h m) =
    let low : Low (k, d - suc j) = record { few = h; level = omega arith } in
    either (nat_lt j d) (λ e. rw e (also {x = (k, d - suc j)} low none_of)) (λ e. rw e none_of)
low-drivers j insert = none_of
low-drivers j (constant x y z) = none_of
low-drivers j empty = none_of
low-drivers j (pairs a b) = each_append (low-drivers j a) (low-drivers j b)
low-drivers j (ellipsis a b) = each_append (low-drivers (suc j) a) (low-drivers j b)

-- ---- in a copy: what is gathered of level none is gathered outside it, where these lists are the same

entered-whole : (v u : Environment) (i k : ℕ) → u ≡ enter i v → counts 0 (v k) ≡ counts 0 (u k)
unfolding counts enter
entered-whole v u i k e =
    ap₂ share_of (sym (ap (λ (z : Environment). (z k).first) e ∙ entering-first k i (v k).first (v k))) (sym (ap (λ (z : Environment). (z k).whole) e ∙ entering-whole k i (v k).first (v k)))

entered-kept : (work : List ℕ) (w i k : ℕ) (kept env : List ℕ) → entry_at kept k ≡ entry_at env k → enter i (environment_at work kept w) k ≡ enter i (environment_at work env w) k
unfolding enter environment_at
entered-kept work w i k kept env e = ap (λ (x : Entry). entering k i (taking_of work w x).first (taking_of work w x)) e

-- where no list is taken under an index, all are the same in each copy
lengths-still : (v : Environment) (i : ℕ) {ds : List (ℕ × ℕ)} → Each Low ds → ((k : ℕ) → k < pattern_variables_most → among k 1 ds ≡ false)
    → map (λ x. counts x.1 (enter i v x.0)) ds ≡ map (λ x. counts x.1 (v x.0)) ds
unfolding among any_of
lengths-still v i none_of h = refl
lengths-still v i (also {x = d} {xs = ds} f fs) h =
    ap₂ ◌∷◌ (first d.1 f.level (no-left (d.0 == d.0 && d.1 == 1) (among d.0 1 ds) (h d.0 f.few))) (lengths-still v i fs (λ k l. no-right (d.0 == k && d.1 == 1) (among k 1 ds) (h k l)))
  where
    no-left : (a b : Bool) → (a || b) ≡ false → a ≡ false
    no-left false b e = refl
    no-left true b e = e

    no-right : (a b : Bool) → (a || b) ≡ false → b ≡ false
    no-right false b e = e
    no-right true b e = absurd (false≢true (sym e))

    first : (l : ℕ) → l < depth_most → (d.0 == d.0 && l == 1) ≡ false → counts l (enter i v d.0) ≡ counts l (v d.0)
    first zero m e = sym (entered-whole v (enter i v) i d.0 refl)
    first (suc zero) m e = absurd (false≢true (sym e ∙ rw (eq-eqb d.0 d.0 refl) refl))
    first (suc (suc l)) m e = absurd (omega arith)

module _ (work env old marks : List ℕ) (e : ℕ) (plain : Plain (template_at work e)) (nothing : (k l : ℕ) → marked old k l ≡ false) (made : Marks work 0 e old marks) where
  marks-are : (k l : ℕ) → k < pattern_variables_most → l < depth_most → marked marks k l ≡ among k l (drivers 0 (template_at work e))
  marks-are k l h m = made k l h m ∙ ap (λ (b : Bool). b || among k l (drivers 0 (template_at work e))) (nothing k l)

  module _ (still : Driving) (still-is : Gathers work env marks 0 pattern_variables_most (Ok None) still) where
    -- with lists of level none as they are outside, and those of level one as an environment has them
    by-levels : (w : ℕ) (u : Environment) (x : Driving) → ((k : ℕ) → counts 0 (environment_at work env w k) ≡ counts 0 (u k))
        → x ≡ gathered (λ k. among k 1 (drivers 0 (template_at work e))) (λ k. counts 1 (u k)) still pattern_variables_most → x ≡ after (Ok None) (lengths_by u 0 (template_at work e))
    unfolding lengths_by levels
    by-levels w u x whole x-is =
        let g : (ℕ × ℕ) → ℕ = λ v. counts v.1 (u v.0) in
        let ds : List (ℕ × ℕ) = drivers 0 (template_at work e) in
        x-is
        ∙ ap (λ (y : Driving). gathered (λ k. among k 1 ds) (λ k. g (k, 1)) y pattern_variables_most)
        (still-is w
        ∙ gathered-cong (λ k. marked marks k 0) (λ k. among k 0 ds) (λ k. counts 0 (environment_at work env w k)) (λ k. g (k, 0)) (Ok None) pattern_variables_most (λ k h. marks-are k 0 h (omega arith))
        (λ k h t. whole k))
        ∙ levels-after g (Ok None) (low-drivers 0 plain)

    -- the table has entered copy i, with the entries that move
    pub gathered-tells : (i : ℕ) (kept table : List ℕ) (x : Driving) → Gathers work table marks 1 pattern_variables_most still x → Keeps marks env pattern_variables_most kept
        → ((w : ℕ) → environment_at work table w ≡ enter i (environment_at work kept w)) → (w : ℕ) → x ≡ after (Ok None) (lengths_by (enter i (environment_at work env w)) 0 (template_at work e))
    gathered-tells i kept table x x-is keeps enters w =
        by-levels w (enter i (environment_at work env w)) x (λ k. entered-whole (environment_at work env w) (enter i (environment_at work env w)) i k refl)
        (x-is w
        ∙ gathered-cong (λ k. marked marks k 1) (λ k. among k 1 (drivers 0 (template_at work e))) _ (λ k. counts 1 (enter i (environment_at work env w) k)) still pattern_variables_most (λ k h. marks-are k 1 h (omega arith))
        (λ k h t. ap (λ (z : Taking). counts 1 z) (ap (λ (z : Environment). z k) (enters w) ∙ entered-kept work w i k kept env (keeps k h t))))

    -- lists of level none that differ in length do so in each copy
    pub still-differs : (d : Differ) → still ≡ Err d → (i w : ℕ) → still ≡ after (Ok None) (lengths_by (enter i (environment_at work env w)) 0 (template_at work e))
    still-differs d q i w =
        by-levels w (enter i (environment_at work env w)) still (λ k. entered-whole (environment_at work env w) (enter i (environment_at work env w)) i k refl)
        (rw q (sym (gathered-differ _ _ d pattern_variables_most)))

    module _ (unmarked : Unmarked marks 1 pattern_variables_most) where
      pub still-drives : Drives work env 0 e (Ok None) still
      unfolding driving
      still-drives w = by-levels w (environment_at work env w) still (λ k. refl) (sym (gathered_none _ _ still pattern_variables_most (λ k h. sym (marks-are k 1 h (omega arith)) ∙ unmarked k h)))

      pub still-same : (v : Environment) (i : ℕ) → lengths_by (enter i v) 0 (template_at work e) ≡ lengths_by v 0 (template_at work e)
      unfolding lengths_by
      still-same v i = lengths-still v i (low-drivers 0 plain) (λ k h. sym (marks-are k 1 h (omega arith)) ∙ unmarked k h)
