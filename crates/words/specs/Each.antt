-- What holds of each element of a list, and of an answer where there is one: two claims that follow definitions step by step.
use Rattle.std.specs.Prelude.{◌≡◌, Bool, true, false, cond, List, [], ◌∷◌, ◌++◌, map, ℕ, zero, suc, get_or}
use Rattle.std.proofs.Math.Path.{refl, ap₂}
use Rattle.std.proofs.Common.{subst}
use Rattle.std.proofs.Math.Bool.{◌&&◌}
use Rattle.std.proofs.Math.Option.{Option, none, some}
use Rattle.words.specs.Lists.{all_of}
use Rattle.words.specs.TestLaws.{all-parts}
use Rattle.words.specs.Options.{only_if, map_some, map_both, traverse}

-- ---- lists

pub data Each {A : Type 0} (P : A → Type 0) : List A → Type 0 where
  none_of : Each P []
  also : {x : A} {xs : List A} → P x → Each P xs → Each P (x ∷ xs)

module _ {A : Type 0} {P Q : A → Type 0} where
  pub each_weaken : {xs : List A} → ((x : A) → P x → Q x) → Each P xs → Each Q xs
  each_weaken f none_of = none_of
  each_weaken f (also p ps) = also (f _ p) (each_weaken f ps)

module _ {A : Type 0} {P : A → Type 0} where
  pub each_all : (xs : List A) → ((x : A) → P x) → Each P xs
  each_all [] f = none_of
  each_all (x ∷ xs) f = also (f x) (each_all xs f)

  pub each_append : {xs ys : List A} → Each P xs → Each P ys → Each P (xs ++ ys)
  each_append none_of qs = qs
  each_append (also p ps) qs = also p (each_append ps qs)

  pub each_left : (xs ys : List A) → Each P (xs ++ ys) → Each P xs
  each_left [] ys ps = none_of
  each_left (x ∷ xs) ys (also p ps) = also p (each_left xs ys ps)

  pub each_right : (xs ys : List A) → Each P (xs ++ ys) → Each P ys
  each_right [] ys ps = ps
  each_right (x ∷ xs) ys (also p ps) = each_right xs ys ps

  pub each-get_d : {xs : List A} (n : ℕ) (d : A) → Each P xs → P d → P (get_or xs n d)
  each-get_d n d none_of q = q
  each-get_d zero d (also p ps) q = p
  each-get_d (suc n) d (also p ps) q = each-get_d n d ps q

pub each_map : {A B : Type 0} {P : A → Type 0} {Q : B → Type 0} (f : A → B) {xs : List A} → ((x : A) → P x → Q (f x)) → Each P xs → Each Q (map f xs)
each_map f g none_of = none_of
each_map f g (also p ps) = also (g _ p) (each_map f g ps)

pub each-mapped : {A B : Type 0} {Q : B → Type 0} (f : A → B) → ((x : A) → Q (f x)) → (xs : List A) → Each Q (map f xs)
each-mapped f q [] = none_of
each-mapped f q (x ∷ xs) = also (q x) (each-mapped f q xs)

-- a test passes all where it passes each
module _ {A : Type 0} (f : A → Bool) where
  pub each-true : (xs : List A) → all_of f xs ≡ true → Each (λ x. f x ≡ true) xs
  each-true [] e = none_of
  each-true (x ∷ xs) e = let p = all-parts f x xs e in also p.0 (each-true xs p.1)

  pub true-each : {xs : List A} → Each (λ x. f x ≡ true) xs → all_of f xs ≡ true
  unfolding all_of
  true-each none_of = refl
  true-each (also p ps) = ap₂ ◌&&◌ p (true-each ps)

-- ---- answers

pub data Given {A : Type 0} (P : A → Type 0) : Option A → Type 0 where
  missing : Given P none
  given : {a : A} → P a → Given P (some a)

module _ {A : Type 0} {P : A → Type 0} where
  pub given-some : {a : A} → Given P (some a) → P a
  given-some (given p) = p

  pub given-at : {o : Option A} {a : A} → Given P o → o ≡ some a → P a
  given-at g e = given-some (subst (Given P) e g)

  pub given-cond : (b : Bool) {o q : Option A} → Given P o → Given P q → Given P (cond b o q)
  given-cond true g h = g
  given-cond false g h = h

  pub given-guard : (b : Bool) {o : Option A} → Given P o → Given P (only_if b o)
  unfolding only_if
  given-guard b g = given-cond b g missing

pub given-any : {A : Type 0} (o : Option A) → Given (λ a. Unit {0}) o
given-any none = missing
given-any (some a) = given tt

pub given-weaken : {A : Type 0} {P Q : A → Type 0} {o : Option A} → ((a : A) → P a → Q a) → Given P o → Given Q o
given-weaken k missing = missing
given-weaken k (given p) = given (k _ p)

pub given-map_some : {A B : Type 0} {P : A → Type 0} {Q : B → Type 0} (f : A → B) {o : Option A} → ((a : A) → P a → Q (f a)) → Given P o → Given Q (map_some f o)
unfolding map_some
given-map_some f k missing = missing
given-map_some f k (given p) = given (k _ p)

pub given-map_both : {A B C : Type 0} {P : A → Type 0} {Q : B → Type 0} {R : C → Type 0} (f : A → B → C) {o : Option A} {q : Option B}
    → ((a : A) (b : B) → P a → Q b → R (f a b)) → Given P o → Given Q q → Given R (map_both f o q)
unfolding map_both
given-map_both f k missing h = missing
given-map_both f k (given {a} p) h = given-map_some (f a) (λ b q. k a b p q) h

pub given-traverse : {A B : Type 0} {P : B → Type 0} {f : A → Option B} {xs : List A} → Each (λ x. Given P (f x)) xs → Given (Each P) (traverse f xs)
unfolding traverse
given-traverse none_of = given none_of
given-traverse (also g gs) = given-map_both ◌∷◌ (λ a b p ps. also p ps) g (given-traverse gs)
