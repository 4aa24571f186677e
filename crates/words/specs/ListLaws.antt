-- Laws of the tests of numbers and lists, each named after the test and what it gives.
use Rattle.std.specs.Prelude.{◌≡◌, refl, Bool, true, false, ◌&&◌, ◌||◌, ◌⊎◌, ℕ, zero, suc, ◌+◌, ◌-◌, ◌≤◌, ◌<◌, eqb, length, get_or, drop, set}
use Rattle.std.proofs.Common.{sym, ap, subst, ◌∙◌, inl, inr, arith, add-one, length-drop, take-append-drop, length-take-le, take_all, take-suc, get_or-drop, drop-drop, eqb-true, eq-eqb, ne_eqb}
use Rattle.std.specs.Bool.{beq}
use mathlib.Core.List.{List, [], ◌∷◌, ◌++◌}
use Rattle.std.proofs.Math.Seq.{paste, paste-suc}
use Rattle.std.proofs.lemmas.Bool.{eqb-false}
use Rattle.words.specs.Lists.{all_of, any_of, equal}
use Rattle.words.specs.Parts.{rest, part}
use Rattle.words.specs.TestLaws.{and_left, and_right}

-- ---- tests

module _ {P : Type 0} where
  -- a test is true or false
  pub either : (t : Bool) → (t ≡ true → P) → (t ≡ false → P) → P
  either true y n = y refl
  either false y n = n refl

  -- no test is both
  pub never : {t : Bool} → t ≡ true → t ≡ false → P
  never h k = let z : ◌≡◌ {A = Bool} true false = sym h ∙ k in let e : ◌≡◌ {A = ℕ} 0 1 = cc in absurd (omega arith)

-- ---- any

-- what holds of each member holds of a number that equals one
unfoldable pub Each : (ℕ → Type 0) → List ℕ → Type 0
Each P [] = 0 ≤ 0
Each P (x ∷ xs) = P x × Each P xs

pub any-each : (P : ℕ → Type 0) (n : ℕ) (l : List ℕ) → Each P l → any_of (eqb n) l ≡ true → P n
unfolding any_of Each
any-each P n [] ps h = never h refl
any-each P n (x ∷ xs) ps h =
    either (eqb n x) (λ e. subst P (sym (eqb-true n x e)) ps.0)
    (λ e. any-each P n xs ps.1 (ap (λ (t : Bool). t || any_of (eqb n) xs) (sym e) ∙ h))

-- ---- a test's value over a range, computed once

-- f is v at each of n numbers from lo, save those listed
unfoldable pub valued : (ℕ → Bool) → Bool → List ℕ → ℕ → ℕ → Bool
valued f v save lo zero = true
valued f v save lo (suc n) = (any_of (eqb lo) save || beq (f lo) v) && valued f v save (suc lo) n

beq-true : (a b : Bool) → beq a b ≡ true → b ≡ a
beq-true true true h = refl
beq-true true false h = never h refl
beq-true false true h = never h refl
beq-true false false h = refl

pub valued-at : (f : ℕ → Bool) (v : Bool) (save : List ℕ) (lo n : ℕ) → valued f v save lo n ≡ true → (b : ℕ) → lo ≤ b → b < lo + n
    → any_of (eqb b) save ≡ false → v ≡ f b
unfolding valued
valued-at f v save lo zero h b l u s = absurd (omega arith)
valued-at f v save lo (suc n) h b l u s =
    let t = any_of (eqb lo) save || beq (f lo) v in
    let rest = valued f v save (suc lo) n in
    either (eqb b lo)
    (λ e. let k : lo ≡ b = sym (eqb-true b lo e) in
    let q : any_of (eqb b) save || beq (f b) v ≡ true = subst (λ m. any_of (eqb m) save || beq (f m) v ≡ true) k (and_left t rest h) in
    beq-true (f b) v (rw s at q))
    (λ e. let k : suc lo ≤ b = omega (arith, eqb-false b lo e) in valued-at f v save (suc lo) n (and_right t rest h) b k (omega arith) s)

pub any-neither : (b x y : ℕ) → ((b ≡ x) ⊎ (b ≡ y) → ⊥) → any_of (eqb b) (x ∷ y ∷ []) ≡ false
unfolding any_of
any-neither b x y h = rw (ne_eqb b x (λ e. h (inl e)), ne_eqb b y (λ e. h (inr e)))

-- ---- all

module _ {A : Type 0} where
  pub all_append : (f : A → Bool) (a b : List A) → all_of f a ≡ true → all_of f b ≡ true → all_of f (a ++ b) ≡ true
  unfolding all_of
  all_append f [] b p q = q
  all_append f (x ∷ a) b p q =
      rw (and_left (f x) (all_of f a) p) (all_append f a b (and_right (f x) (all_of f a) p) q)

-- ---- equal

pub equal-refl : (l : List ℕ) → equal l l ≡ true
unfolding equal
equal-refl [] = refl
equal-refl (x ∷ xs) = rw (eq-eqb x x refl) (equal-refl xs)

pub equal-true : (a b : List ℕ) → equal a b ≡ true → a ≡ b
unfolding equal
equal-true [] [] h = refl
equal-true [] (y ∷ b) h = never h refl
equal-true (x ∷ a) [] h = never h refl
equal-true (x ∷ a) (y ∷ b) h =
    let p : x ≡ y = eqb-true x y (and_left (eqb x y) (equal a b) h) in
    let q : a ≡ b = equal-true a b (and_right (eqb x y) (equal a b) h) in
    cc

-- ---- parts

pub rest-is : {A : Type 0} (a : ℕ) (s : List A) → rest a s ≡ drop a s
rest-is a s = let h : length (drop a s) ≤ length s - a = omega (arith, length-drop a s) in take_all (length s - a) (drop a s) h

-- what holds of the part that is all of a list holds of the list
pub whole : {A : Type 0} (P : List A → Type 0) (s : List A) → P (rest 0 s) → P s
whole P s = subst P (rest-is 0 s)

-- a part that goes on for one element
pub part-more : (from to : ℕ) (s : List ℕ) → from ≤ to → to < length s → part from (to + 1) s ≡ part from to s ++ (get_or s to 0 ∷ [])
part-more from to s l h =
    let e : to + 1 - from ≡ suc (to - from) = omega arith in
    let k : to - from < length (drop from s) = omega (arith, length-drop from s) in
    let g : from + (to - from) ≡ to = omega arith in
    rw e (take-suc (drop from s) (to - from) 0 k ∙ ap (λ x. part from to s ++ (x ∷ [])) (get_or-drop from s (to - from) 0 ∙ ap (λ n. get_or s n 0) g))

-- a part and what follows it
pub part-split : (from to : ℕ) (s : List ℕ) → from ≤ to → drop from s ≡ part from to s ++ drop to s
part-split from to s l =
    let g : from + (to - from) ≡ to = omega arith in
    sym (take-append-drop (to - from) (drop from s)) ∙ ap (λ x. part from to s ++ x) (drop-drop (to - from) from s ∙ ap (λ n. drop n s) g)

pub length_part : (from to : ℕ) (s : List ℕ) → from ≤ to → to ≤ length s → length (part from to s) ≡ to - from
length_part from to s l h =
    let k : to - from ≤ length (drop from s) = omega (arith, length-drop from s) in
    length-take-le (to - from) (drop from s) k

pub part_none : (from : ℕ) (s : List ℕ) → part from from s ≡ []
part_none from s = let e : from - from ≡ 0 = omega arith in rw e

-- ---- a copy's turn, at the code's j + 1

pub paste_more : (d : List ℕ) (at : ℕ) (s : List ℕ) (j : ℕ) → at + j < length d → j < length s
    → set (paste d at s j) (at + j) (get_or s j 0) ≡ paste d at s (j + 1)
paste_more d at s j hd hs = rw add-one (paste-suc d at s j 0 hd hs)
