-- Laws of the arena: what a cell means depends on the words below its reference alone; what each kind of wrap and node means;
-- and that waiting on a tree is carrying through it.
use Rattle.std.specs.Prelude.{◌≡◌, ℕ, zero, suc, ◌-◌, ◌*◌, ◌/◌, ◌%◌, ◌<◌, ◌≤◌, Bool, true, false, ◌&&◌, ◌||◌, List, [], ◌∷◌, length, take, ◌==◌, ◌≢◌, nat_lt, slice_index, slice_index_or}
use Rattle.std.proofs.Math.Path.{refl, ap, ap₂, fun_ext}
use Rattle.std.proofs.Common.{sym, ◌∙◌, arith, length-take, get_or-take, take-take}
use Rattle.std.proofs.Math.Bool.{or-true}
use Rattle.std.proofs.Math.Option.{Option, none, some}
use borrow.Author.Tests.{lt-ltb, le-ltb, eq-eqb, ne_eqb, ltb-true, eqb-true, eqb-false}
use Rattle.words.specs.Lists.{within, equal}
use Rattle.words.specs.TestLaws.{iff-eq, within-is, within-parts}
use Rattle.words.specs.ListLaws.{either, equal-true}
use Rattle.recipe.specs.Name.{Binding, variable, macro, Name, plain_name, binding_key, mark_name, bind_name, give_binding, same, toggle}
use Rattle.arena.specs.Offsets.{TAG, INNER, STEP, OUTER, KEY, BOUND-KEY, BOUND-NUMBER, BOUND-COUNT, BOUND-NEWEST}
use Rattle.arena.specs.Arena.{word_at, falling, reference_at, binding_of, give_key, step_limit, marked, newest, by_tag, mark_on, join_on, own_marks, same_marks, is_own, rebound, binder_on, wrap_step, wrap_from, wrap_at}

-- ---- words and references

pub word_at-in : (work : List ℕ) (at k : ℕ) → 3 ≤ at → k ≤ at → at ≤ length work → word_at work at k ≡ slice_index work (at - k)
unfolding word_at
word_at-in work at k t h l = either (within 1 3 k) (λ e. rw (e, within-is 3 (length work) at t l)) (λ e. rw (e, le-ltb at k h))

-- the last three words of no cell
pub word_at-past : (work : List ℕ) (at k : ℕ) → within 1 3 k ≡ true → within 3 (length work) at ≡ false → word_at work at k ≡ 0
unfolding word_at
word_at-past work at k e f = rw (e, f)

pub word_at-none : (work : List ℕ) (k : ℕ) → 0 < k → word_at work 0 k ≡ 0
unfolding word_at within
word_at-none work k h = either (within 1 3 k) (λ e. rw e) (λ e. rw (e, lt-ltb 0 k h))

-- tables that are the same below a place reach it both or neither
reach-below : (a b : List ℕ) (least n : ℕ) → take n a ≡ take n b → within least (length a) n ≡ within least (length b) n
reach-below a b least n e = iff-eq _ _ (reaches a b e) (reaches b a (sym e))
  where
    reaches : (x y : List ℕ) → take n x ≡ take n y → within least (length x) n ≡ true → within least (length y) n ≡ true
    reaches x y f t =
        let p = within-parts least (length x) n t in
        within-is least (length y) n p.0 (omega (arith, p.1, length-take n x, length-take n y, ap length f))

-- the words below a place are the same in both tables
pub word_at-below : (a b : List ℕ) (at k : ℕ) → 0 < k → take at a ≡ take at b → word_at a at k ≡ word_at b at k
unfolding word_at
word_at-below a b zero k p e = word_at-none a k p ∙ sym (word_at-none b k p)
word_at-below a b (suc n) k p e =
    let at = suc n in
    let l : at - k < at = omega arith in
    let same : slice_index_or a (at - k) 0 ≡ slice_index_or b (at - k) 0 = sym (get_or-take at a (at - k) 0 l) ∙ ap (λ (s : List ℕ). slice_index s (at - k)) e ∙ get_or-take at b (at - k) 0 l in
    rw (same, reach-below a b 3 at e)

pub falling-falls : (at r : ℕ) → 0 < at → falling at r < at
unfolding falling
falling-falls at r h =
    either (nat_lt r at)
    (λ t. rw t (ltb-true r at t))
    (λ t. rw t h)

pub falling-is : (at r : ℕ) → r < at → falling at r ≡ r
unfolding falling
falling-is at r h = rw (lt-ltb r at h)

pub reference_at-falls : (work : List ℕ) (at k : ℕ) → 0 < at → reference_at work at k < at
unfolding reference_at
reference_at-falls work at k h = falling-falls at (word_at work at k) h

pub reference_at-most : (work : List ℕ) (at k : ℕ) → reference_at work at k ≤ at
unfolding reference_at falling
reference_at-most work at k = either (nat_lt (word_at work at k) at) (λ t. rw t (omega (arith, ltb-true (word_at work at k) at t))) (λ t. rw t (omega arith))

pub reference_at-below : (a b : List ℕ) (at k : ℕ) → 0 < k → take at a ≡ take at b → reference_at a at k ≡ reference_at b at k
unfolding reference_at
reference_at-below a b at k p e = ap (falling at) (word_at-below a b at k p e)

pub take_less : (a b : List ℕ) (m n : ℕ) → m ≤ n → take n a ≡ take n b → take m a ≡ take m b
take_less a b m n h e = sym (take-take m n a h) ∙ ap (take m) e ∙ take-take m n b h

-- ---- any reading of cells in steps

-- `from` is what gas and a reference mean, `step` one step of it
pub record Reads {A : Type 0} (from : ℕ → ℕ → A) (step : (ℕ → A) → ℕ → A) (nothing : A) : Type 0 where
  pub steps : (g at : ℕ) → from (suc g) at ≡ step (from g) at
  pub ends : (g : ℕ) → from g 0 ≡ nothing

-- readings of two tables agree, where their steps do: what a reference means depends on the words below it alone, and gas that is
-- enough changes nothing
module _ {A : Type 0} {from from' : ℕ → ℕ → A} {step step' : (ℕ → A) → ℕ → A} {nothing : A} (x : Reads from step nothing) (y : Reads from' step' nothing) (a b : List ℕ)
    (step-agree : (at : ℕ) → 0 < at → take at a ≡ take at b → (f g : ℕ → A) → ((r : ℕ) → r < at → f r ≡ g r) → step f at ≡ step' g at) where
  from_empty : (g h at : ℕ) → at ≡ 0 → from g at ≡ from' h at
  from_empty g h at e = rw e (x.ends g ∙ sym (y.ends h))

  from_more : (g h : ℕ) → ((at : ℕ) → at ≤ g → at ≤ h → take at a ≡ take at b → from g at ≡ from' h at) → (at : ℕ) → at ≤ suc g → at ≤ suc h → take at a ≡ take at b → from (suc g) at ≡ from' (suc h) at
  from_more g h ih zero p q e = from_empty (suc g) (suc h) zero refl
  from_more g h ih (suc at) p q e =
      x.steps g (suc at)
      ∙ step-agree (suc at) (omega arith) e (from g) (from' h) (λ r l. ih r (omega arith) (omega arith) (take_less a b r (suc at) (omega arith) e))
      ∙ sym (y.steps h (suc at))

  pub from-agree : (g h at : ℕ) → at ≤ g → at ≤ h → take at a ≡ take at b → from g at ≡ from' h at
  from-agree zero h at p q e = from_empty zero h at (omega arith)
  from-agree (suc g) zero at p q e = from_empty (suc g) zero at (omega arith)
  from-agree (suc g) (suc h) at p q e = from_more g h (from-agree g h) at p q e

  -- the reference itself is gas enough
  pub from-below : (at : ℕ) → take at a ≡ take at b → from at at ≡ from' at at
  from-below at e = from-agree at at at (omega arith) (omega arith) e

-- what a cell refers to is read in the same way
pub from-whole : {A : Type 0} {from : ℕ → ℕ → A} {step : (ℕ → A) → ℕ → A} {nothing : A} → Reads from step nothing
    → ((at : ℕ) → 0 < at → (f g : ℕ → A) → ((r : ℕ) → r < at → f r ≡ g r) → step f at ≡ step g at)
    → (at : ℕ) → 0 < at → from at at ≡ step (λ r. from r r) at
from-whole x same zero h = absurd (omega arith)
from-whole {from = from} x same (suc at) h =
    x.steps at (suc at)
    ∙ same (suc at) h (from at) (λ r. from r r) (λ r l. from-agree x x [] [] (λ n p e. same n p) at r r (omega arith) (omega arith) refl)

-- ---- what a wrap means depends on the words below it alone

by_tag-cong : (t : ℕ) (f f' g g' h h' : Name → Name) (x : Name) → f x ≡ f' x → g x ≡ g' x → h x ≡ h' x → by_tag t f g h (λ y. y) x ≡ by_tag t f' g' h' (λ y. y) x
unfolding by_tag
by_tag-cong t f f' g g' h h' x p q r =
    either (t == 1)
    (λ a. rw a p)
    (λ a. either (t == 2) (λ b. rw (a, b) q) (λ b. either (t == 3) (λ c. rw (a, b, c) r) (λ c. rw (a, b, c))))

module _ (a b : List ℕ) (f g : ℕ → Name → Name) (w : ℕ) (some_word : 0 < w) (e : take w a ≡ take w b) (agree : (r : ℕ) → r < w → (x : Name) → f r x ≡ g r x) where
  inner-agree : (k : ℕ) → 0 < k → (x : Name) → f (reference_at a w k) x ≡ g (reference_at b w k) x
  inner-agree k p x = agree (reference_at a w k) (reference_at-falls a w k some_word) x ∙ ap (λ (r : ℕ). g r x) (reference_at-below a b w k p e)

  two-agree : (j k : ℕ) → 0 < j → 0 < k → (x : Name) → f (reference_at a w j) (f (reference_at a w k) x) ≡ g (reference_at b w j) (g (reference_at b w k) x)
  two-agree j k p q x = ap (f (reference_at a w j)) (inner-agree k q x) ∙ inner-agree j p (g (reference_at b w k) x)

  mark-agree : (x : Name) → mark_on a f w x ≡ mark_on b g w x
  unfolding mark_on
  mark-agree x = ap₂ marked (word_at-below a b w 3 (omega arith) e) (inner-agree 2 (omega arith) x)

  join-agree : (x : Name) → join_on a f w x ≡ join_on b g w x
  unfolding join_on
  join-agree x = two-agree 3 2 (omega arith) (omega arith) x

  own_marks-agree : own_marks a f w ≡ own_marks b g w
  unfolding own_marks
  own_marks-agree = ap (λ (x : Name). x.marks) (two-agree 8 9 (omega arith) (omega arith) (plain_name 0 0))

  rebound-agree : (x : Name) → rebound a f w x ≡ rebound b g w x
  unfolding rebound is_own same_marks
  rebound-agree x =
      rw (word_at-below a b w 3 (omega arith) e, word_at-below a b w 4 (omega arith) e, word_at-below a b w 5 (omega arith) e, word_at-below a b w 6 (omega arith) e, word_at-below a b w 7 (omega arith) e, own_marks-agree)

  binder-agree : (x : Name) → binder_on a f w x ≡ binder_on b g w x
  unfolding binder_on
  binder-agree x = ap (rebound a f w) (inner-agree 2 (omega arith) x) ∙ rebound-agree (g (reference_at b w INNER) x)

  step-agree : (x : Name) → wrap_step a f w x ≡ wrap_step b g w x
  unfolding wrap_step
  step-agree x =
      rw (word_at-below a b w 1 (omega arith) e)
      (by_tag-cong (word_at b w TAG) (mark_on a f w) (mark_on b g w) (join_on a f w) (join_on b g w) (binder_on a f w) (binder_on b g w) x (mark-agree x) (join-agree x) (binder-agree x))

wrap_step-agree : (a b : List ℕ) (at : ℕ) → 0 < at → take at a ≡ take at b → (f g : ℕ → Name → Name) → ((r : ℕ) → r < at → f r ≡ g r) → wrap_step a f at ≡ wrap_step b g at
wrap_step-agree a b at h e f g same = fun_ext (λ x. step-agree a b f g at h e (λ r l y. ap (λ (k : Name → Name). k y) (same r l)) x)

wrap_from-none : (work : List ℕ) (gas : ℕ) → wrap_from work gas 0 ≡ λ x. x
unfolding wrap_from wrap_step by_tag word_at within
wrap_from-none work zero = refl
wrap_from-none work (suc gas) = refl

reads-wrap : (work : List ℕ) → Reads (wrap_from work) (wrap_step work) (λ x. x)
unfolding wrap_from
reads-wrap work = record { steps = λ g at. refl; ends = wrap_from-none work }

pub wrap_at-below : (a b : List ℕ) (w : ℕ) → take w a ≡ take w b → (x : Name) → wrap_at a w x ≡ wrap_at b w x
unfolding wrap_at
wrap_at-below a b w e x = ap (λ (k : Name → Name). k x) (from-below (reads-wrap a) (reads-wrap b) a b (wrap_step-agree a b) w e)

-- ---- what each wrap means

pub wrap_at-none : (work : List ℕ) (x : Name) → wrap_at work 0 x ≡ x
unfolding wrap_at
wrap_at-none work x = ap (λ (k : Name → Name). k x) (wrap_from-none work 0)

-- a wrap's inner wraps are wraps
wrap_at-step : (work : List ℕ) (w : ℕ) (x : Name) → 0 < w → wrap_at work w x ≡ wrap_step work (wrap_at work) w x
unfolding wrap_at
wrap_at-step work w x h = ap (λ (k : Name → Name). k x) (from-whole (reads-wrap work) (λ at p. wrap_step-agree work work at p refl) w h)

-- a cell with a word has words below its reference
pub word_at-some : (work : List ℕ) (at k : ℕ) → 0 < k → (word_at work at k ≢ 0) → 0 < at
word_at-some work zero k p h = absurd (h (word_at-none work k p))
word_at-some work (suc at) k p h = omega arith

module _ (work : List ℕ) (w : ℕ) (some_word : 0 < w) where
  pub wrap_at-mark : word_at work w TAG ≡ 1 → (x : Name) → wrap_at work w x ≡ marked (word_at work w STEP) (wrap_at work (reference_at work w INNER) x)
  unfolding wrap_step by_tag mark_on
  wrap_at-mark e x = wrap_at-step work w x some_word ∙ rw e refl

  pub wrap_at-join : word_at work w TAG ≡ 2 → (x : Name) → wrap_at work w x ≡ wrap_at work (reference_at work w OUTER) (wrap_at work (reference_at work w INNER) x)
  unfolding wrap_step by_tag join_on
  wrap_at-join e x = wrap_at-step work w x some_word ∙ rw e refl

  pub wrap_at-binder : word_at work w TAG ≡ 3 → (x : Name) → wrap_at work w x ≡ rebound work (wrap_at work) w (wrap_at work (reference_at work w INNER) x)
  unfolding wrap_step by_tag binder_on
  wrap_at-binder e x = wrap_at-step work w x some_word ∙ rw e refl

  pub wrap_at-other : (word_at work w TAG ≢ 1) → (word_at work w TAG ≢ 2) → (word_at work w TAG ≢ 3) → (x : Name) → wrap_at work w x ≡ x
  unfolding wrap_step by_tag
  wrap_at-other a b c x = wrap_at-step work w x some_word ∙ rw (ne_eqb _ _ a, ne_eqb _ _ b, ne_eqb _ _ c)

-- ---- bindings

pub binding_key-of : (k : ℕ) → binding_key (binding_of k) ≡ k
unfolding binding_key binding_of
binding_key-of k =
    either (k == 0)
    (λ a. rw a (sym (eqb-true k 0 a)))
    (λ a.
    either (k % 2 == 1)
    (λ b. rw (a, b) (omega (arith, eqb-true (k % 2) 1 b)))
    (λ b. rw (a, b) (let n : k ≡ 0 → ⊥ = eqb-false k 0 a in let m : k % 2 ≡ 1 → ⊥ = eqb-false (k % 2) 1 b in omega arith)))

pub binding_of-key : (b : Option Binding) → binding_of (binding_key b) ≡ b
unfolding binding_key binding_of
binding_of-key none = refl
binding_of-key (some (variable n)) =
    let p : suc (2 * n) % 2 ≡ 1 = omega arith in
    let q : suc (2 * n) / 2 ≡ n = omega arith in
    rw (ne_eqb (suc (2 * n)) 0 (λ z. omega arith), p, q)
binding_of-key (some (macro n)) =
    let p : suc (suc (2 * n)) % 2 ≡ 0 = omega arith in
    let q : suc (suc (2 * n)) / 2 - 1 ≡ n = omega arith in
    rw (ne_eqb (suc (suc (2 * n))) 0 (λ z. omega arith), p, q)

-- ---- what waits changes marks and bindings only, and marks by marks alone

pub rebound-marks : (work : List ℕ) (f : ℕ → Name → Name) (w : ℕ) (x : Name) → (rebound work f w x).marks ≡ x.marks
unfolding rebound give_key
rebound-marks work f w x = either (is_own work f w x) (λ t. rw t) (λ t. rw t)

pub marked-marks : (m : ℕ) (x y : Name) → x.marks ≡ y.marks → (marked m x).marks ≡ (marked m y).marks
unfolding marked mark_name
marked-marks m x y e = either (nat_lt m step_limit) (λ t. rw t (ap (toggle m) e)) (λ t. rw t e)

pub marked-number : (m : ℕ) (x : Name) → (marked m x).number ≡ x.number
unfolding marked mark_name
marked-number m x = either (nat_lt m step_limit) (λ t. rw t) (λ t. rw t)

pub marked-binding : (m : ℕ) (x : Name) → (marked m x).binding ≡ x.binding
unfolding marked mark_name
marked-binding m x = either (nat_lt m step_limit) (λ t. rw t) (λ t. rw t)

pub rebound-number : (work : List ℕ) (f : ℕ → Name → Name) (w : ℕ) (x : Name) → (rebound work f w x).number ≡ x.number
unfolding rebound give_key
rebound-number work f w x = either (is_own work f w x) (λ t. rw t) (λ t. rw t)

-- what marking and binding keep of two names, every wrap keeps
module _ (work : List ℕ) (R : Name → Name → Type 0) (by-mark : (m : ℕ) (x y : Name) → R x y → R (marked m x) (marked m y)) (by-binder : (f : ℕ → Name → Name) (w : ℕ) (x y : Name) → R x y → R (rebound work f w x) (rebound work f w y)) where
  wrap_from-keeps : (gas w : ℕ) (x y : Name) → R x y → R (wrap_from work gas w x) (wrap_from work gas w y)
  unfolding wrap_from wrap_step by_tag mark_on join_on binder_on
  wrap_from-keeps zero w x y r = r
  wrap_from-keeps (suc gas) w x y r =
      let once : (v : ℕ) → R (wrap_from work gas v x) (wrap_from work gas v y) = λ v. wrap_from-keeps gas v x y r in
      either (word_at work w TAG == 1)
      (λ a. rw a (by-mark (word_at work w STEP) _ _ (once (reference_at work w INNER))))
      (λ a.
      either (word_at work w TAG == 2)
      (λ b. rw (a, b) (wrap_from-keeps gas (reference_at work w OUTER) _ _ (once (reference_at work w INNER))))
      (λ b. either (word_at work w TAG == 3) (λ c. rw (a, b, c) (by-binder (wrap_from work gas) w _ _ (once (reference_at work w INNER)))) (λ c. rw (a, b, c) r)))

  pub wrap_at-keeps : (w : ℕ) (x y : Name) → R x y → R (wrap_at work w x) (wrap_at work w y)
  unfolding wrap_at
  wrap_at-keeps w x y r = wrap_from-keeps w w x y r

pub wrap_at-marks : (work : List ℕ) (w : ℕ) (x y : Name) → x.marks ≡ y.marks → (wrap_at work w x).marks ≡ (wrap_at work w y).marks
wrap_at-marks work w x y e =
    wrap_at-keeps work (λ a b. a.marks ≡ b.marks) marked-marks
    (λ f v a b r. rebound-marks work f v a ∙ r ∙ sym (rebound-marks work f v b))
    w x y e

pub wrap_at-number : (work : List ℕ) (w : ℕ) (x : Name) → (wrap_at work w x).number ≡ x.number
wrap_at-number work w x =
    wrap_at-keeps work (λ a b. a.number ≡ x.number) (λ m a b r. marked-number m a ∙ r) (λ f v a b r. rebound-number work f v a ∙ r) w x x refl

-- ---- the definition's maps

pub marked-is : (m : ℕ) (x : Name) → m < step_limit → marked m x ≡ mark_name m x
unfolding marked
marked-is m x h = rw (lt-ltb m step_limit h)

-- at most one mark is the newest
few-equal : (a b : List ℕ) → nat_lt (length b) 2 ≡ true → (length a == length b) ≡ true → (newest a == newest b) ≡ true → equal a b ≡ true
unfolding newest equal
few-equal [] [] f l n = refl
few-equal [] (y ∷ ys) f l n = absurd (omega (arith, eqb-true 0 (suc (length ys)) l))
few-equal (x ∷ xs) [] f l n = absurd (omega (arith, eqb-true (suc (length xs)) 0 l))
few-equal (x ∷ []) (y ∷ []) f l n = rw n
few-equal (x ∷ []) (y ∷ v ∷ ys) f l n = absurd (omega (arith, ltb-true (suc (suc (length ys))) 2 f))
few-equal (x ∷ u ∷ xs) (y ∷ ys) f l n = absurd (omega (arith, ltb-true (suc (length ys)) 2 f, eqb-true (suc (suc (length xs))) (suc (length ys)) l))

same_shape : (n k l t f e : Bool) → (e ≡ true → l ≡ true) → (e ≡ true → t ≡ true) → (f ≡ true → l ≡ true → t ≡ true → e ≡ true) → (n && (k && (l && (t && (f || e))))) ≡ (n && (e && k))
same_shape false k l t f e p q r = refl
same_shape true false l t f true p q r = refl
same_shape true false l t f false p q r = refl
same_shape true true l t f true p q r = rw (p refl, q refl) (or-true f)
same_shape true true false t f false p q r = refl
same_shape true true true false f false p q r = refl
same_shape true true true true false false p q r = refl
same_shape true true true true true false p q r = sym (r refl refl refl)

-- a binder's cell says this of its own name
pub record Own (work : List ℕ) (w : ℕ) (i : Name) : Type 0 where
  pub number_is : word_at work w BOUND-NUMBER ≡ i.number
  pub binding-is : word_at work w BOUND-KEY ≡ binding_key i.binding
  pub count-is : word_at work w BOUND-COUNT ≡ length i.marks
  pub newest-is : word_at work w BOUND-NEWEST ≡ newest i.marks
  pub marks-are : own_marks work (wrap_at work) w ≡ i.marks

is_own-same : (work : List ℕ) (w : ℕ) (i x : Name) → Own work w i → is_own work (wrap_at work) w x ≡ same i x
unfolding is_own same_marks same
is_own-same work w i x o =
    rw (o.number_is, o.binding-is, o.count-is, o.newest-is, o.marks-are)
    (same_shape (i.number == x.number) (binding_key i.binding == binding_key x.binding) (length i.marks == length x.marks) (newest i.marks == newest x.marks) (nat_lt (length x.marks) 2) (equal i.marks x.marks)
    (λ t. eq-eqb _ _ (ap length (equal-true i.marks x.marks t)))
    (λ t. eq-eqb _ _ (ap newest (equal-true i.marks x.marks t)))
    (few-equal i.marks x.marks))

pub rebound-is : (work : List ℕ) (w : ℕ) (i : Name) (b : Binding) (x : Name) → Own work w i → word_at work w KEY ≡ binding_key (some b) → rebound work (wrap_at work) w x ≡ bind_name i b x
unfolding rebound bind_name give_key give_binding
rebound-is work w i b x o e = rw (is_own-same work w i x o, e, binding_of-key (some b))
