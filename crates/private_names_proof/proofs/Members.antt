-- Tests of lists, from and to what is said of a list's members.
use Rattle.std.specs.Prelude.{◌≡◌, ◌⊎◌, Bool, false, not, ◌||◌}
use Rattle.std.proofs.Math.Path.{refl}
use Rattle.std.proofs.Common.{subst, inl, inr}
use Rattle.std.proofs.Math.Bool.{true}
use Rattle.std.proofs.lemmas.Bool.{false≢true}
use mathlib.Core.List.{List, [], ◌∷◌, Memᴰ}
use Rattle.words.specs.Lists.{all_of, any_of}
use Rattle.words.specs.TestLaws.{and_both, or_left, or_right, or_cases}

module _ {A : Type 0} (f : A → Bool) where
  pub all_from : (l : List A) → ((x : A) → Memᴰ x l → f x ≡ true) → all_of f l ≡ true
  unfolding all_of
  all_from [] h = refl
  all_from (x ∷ l) h = and_both (f x) (all_of f l) (h x (Memᴰ.head refl)) (all_from l (λ y m. h y (Memᴰ.tail m)))

  pub any-from : (l : List A) (x : A) → Memᴰ x l → f x ≡ true → any_of f l ≡ true
  unfolding any_of
  any-from [] x m e = elim m [ ]
  any-from (y ∷ l) x (Memᴰ.head p) e = or_left (f y) (any_of f l) (subst (λ z. f z ≡ true) p e)
  any-from (y ∷ l) x (Memᴰ.tail m) e = or_right (f y) (any_of f l) (any-from l x m e)

  pub any-member : (l : List A) → any_of f l ≡ true → (x : A) × Memᴰ x l × (f x ≡ true)
  unfolding any_of
  any-member [] e = absurd (false≢true e)
  any-member (y ∷ l) e = go (or_cases (f y) (any_of f l) e) (any-member l)
    where
      go : (f y ≡ true) ⊎ (any_of f l ≡ true) → (any_of f l ≡ true → (x : A) × Memᴰ x l × (f x ≡ true)) → (x : A) × Memᴰ x (y ∷ l) × (f x ≡ true)
      go (inl p) later = (y, Memᴰ.head refl, p)
      go (inr p) later = let r = later p in (r.0, Memᴰ.tail r.1, r.2)

pub false-from : (b : Bool) → (b ≡ true → ⊥) → b ≡ false
false-from true h = absurd (h refl)
false-from false h = refl

pub if-from : (a b : Bool) → (a ≡ true → b ≡ true) → (not a || b) ≡ true
if-from true b h = h refl
if-from false b h = refl
