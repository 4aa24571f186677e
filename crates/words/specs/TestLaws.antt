-- Laws of tests: what a passed test tells of its parts, and of each element of a list.
use Rattle.std.specs.Prelude.{◌≡◌, Bool, ◌&&◌, ◌||◌, ◌⊎◌, leb, drop}
use Rattle.std.proofs.Math.Path.{refl, ap, sym}
use Rattle.std.proofs.Common.{◌∙◌, inl, inr, leb-true, le-leb}
use Rattle.std.proofs.Math.Bool.{true, false, and_assoc}
use Rattle.std.proofs.lemmas.Bool.{false≢true, lt-leb}
use mathlib.Core.List.{List, [], ◌∷◌, ◌++◌}
use Prim.Native.Nat.{ℕ, zero, suc, ◌≤◌, ◌<◌}
use Rattle.words.specs.Lists.{within, all_of, any_of}

-- ---- conjunctions

pub and_left : (a b : Bool) → (a && b) ≡ true → a ≡ true
and_left true b e = refl
and_left false b e = e

pub and_right : (a b : Bool) → (a && b) ≡ true → b ≡ true
and_right true b e = e
and_right false true e = refl
and_right false false e = e

pub and_parts : (a b : Bool) → (a && b) ≡ true → (a ≡ true) × (b ≡ true)
and_parts a b e = (and_left a b e, and_right a b e)

pub and_both : (a b : Bool) → a ≡ true → b ≡ true → (a && b) ≡ true
and_both a b p q = rw (p, q)

pub and-none-left : (a b : Bool) → a ≡ false → (a && b) ≡ false
and-none-left a b p = rw p

pub and-none-right : (a b : Bool) → b ≡ false → (a && b) ≡ false
and-none-right true b p = p
and-none-right false b p = refl

-- ---- disjunctions

pub or_left : (a b : Bool) → a ≡ true → (a || b) ≡ true
or_left true b e = refl
or_left false b e = cc

pub or_right : (a b : Bool) → b ≡ true → (a || b) ≡ true
or_right true b e = refl
or_right false b e = e

pub or_cases : (a b : Bool) → (a || b) ≡ true → (a ≡ true) ⊎ (b ≡ true)
or_cases true b e = inl refl
or_cases false b e = inr e

pub or-none : (a b : Bool) → a ≡ false → b ≡ false → (a || b) ≡ false
or-none a b p q = rw (p, q)

-- ---- tests that imply each other are equal

pub iff-eq : (a b : Bool) → (a ≡ true → b ≡ true) → (b ≡ true → a ≡ true) → a ≡ b
iff-eq true true f g = refl
iff-eq true false f g = absurd (false≢true (f refl))
iff-eq false true f g = absurd (false≢true (g refl))
iff-eq false false f g = refl

-- ---- within

pub within-parts : (a b n : ℕ) → within a b n ≡ true → (a ≤ n) × (n ≤ b)
unfolding within
within-parts a b n e =
    let p = and_parts (leb a n) (leb n b) e in
    (leb-true a n p.0, leb-true n b p.1)

pub within-is : (a b n : ℕ) → a ≤ n → n ≤ b → within a b n ≡ true
unfolding within
within-is a b n h l = and_both (leb a n) (leb n b) (le-leb a n h) (le-leb n b l)

pub within-least : (a b n : ℕ) → within a b n ≡ true → a ≤ n
within-least a b n e = (within-parts a b n e).0

pub within-most : (a b n : ℕ) → within a b n ≡ true → n ≤ b
within-most a b n e = (within-parts a b n e).1

pub outside_below : (a b n : ℕ) → n < a → within a b n ≡ false
unfolding within
outside_below a b n h = and-none-left (leb a n) (leb n b) (lt-leb a n h)

pub outside_above : (a b n : ℕ) → b < n → within a b n ≡ false
unfolding within
outside_above a b n h = and-none-right (leb a n) (leb n b) (lt-leb n b h)

-- ---- all

module _ {A : Type 0} (f : A → Bool) where
  pub all-parts : (x : A) (xs : List A) → all_of f (x ∷ xs) ≡ true → (f x ≡ true) × (all_of f xs ≡ true)
  unfolding all_of
  all-parts x xs e = and_parts (f x) (all_of f xs) e

  pub all_head : (x : A) (xs : List A) → all_of f (x ∷ xs) ≡ true → f x ≡ true
  all_head x xs e = (all-parts x xs e).0

  pub all_drop : (i : ℕ) (xs : List A) → all_of f xs ≡ true → all_of f (drop i xs) ≡ true
  unfolding all_of
  all_drop zero xs e = e
  all_drop (suc i) [] e = e
  all_drop (suc i) (x ∷ xs) e = all_drop i xs (all-parts x xs e).1

  pub all_append : (xs ys : List A) → all_of f (xs ++ ys) ≡ (all_of f xs && all_of f ys)
  unfolding all_of
  all_append [] ys = refl
  all_append (x ∷ xs) ys = ap (λ (b : Bool). f x && b) (all_append xs ys) ∙ sym (and_assoc (f x) (all_of f xs) (all_of f ys))

-- ---- any

module _ {A : Type 0} (f : A → Bool) where
  pub any_append : (xs ys : List A) → any_of f (xs ++ ys) ≡ (any_of f xs || any_of f ys)
  unfolding any_of
  any_append [] ys = refl
  any_append (x ∷ xs) ys = go (f x) (any_append xs ys)
    where
      go : (b : Bool) → any_of f (xs ++ ys) ≡ (any_of f xs || any_of f ys) → (b || any_of f (xs ++ ys)) ≡ ((b || any_of f xs) || any_of f ys)
      go true e = refl
      go false e = e
