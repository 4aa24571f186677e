-- Laws of constants: the kinds there are, and how many words each has in the core term.
use Rattle.std.specs.Prelude.{◌≡◌, refl, false, List, [], ◌∷◌, ℕ, suc, ◌≤◌, ◌<◌, eqb, ltb, length}
use Rattle.std.proofs.Math.Bool.{true}
use native.Mathlib.Omega.{arith}
use borrow.Author.Tests.{eqb-true, ltb-true, ne_eqb}
use Rattle.words.specs.Limits.{places_most}
use Rattle.words.specs.Lists.{within}
use Rattle.words.specs.ListLaws.{either}
use Rattle.words.specs.TestLaws.{and_parts, and-none-right}
use Rattle.datum.specs.Constant.{Constant, integer_kind, boolean_kind, decimal_kind, is_constant, constant_words, integer, boolean, decimal}

-- a constant of its three words
abbrev pub made : (kind first second : ℕ) → Constant
made k w v = record { kind = k; first = w; second = v }

-- ---- the kinds

-- what holds of integers, of the booleans and of decimals holds of every constant
module _ (P : Constant → Type 0) (int : (w : ℕ) → P (integer w)) (bool : (w : ℕ) → w < 2 → P (boolean w))
    (dec : (w p : ℕ) → within 1 places_most p ≡ true → P (decimal w p)) where
  pub constant-case : (a : Constant) → is_constant a ≡ true → P a
  unfolding is_constant integer boolean decimal
  constant-case a h = go a.kind a.first a.second h
    where
      go : (k w v : ℕ) → is_constant (made k w v) ≡ true → P (made k w v)
      go k w v h =
          either (eqb k integer_kind)
          (λ e. rw (eqb-true k integer_kind e, eqb-true v 0 (rw e at h)) (int w))
          (λ e.
          either (eqb k boolean_kind)
          (λ f. let p = and_parts (ltb w 2) (eqb v 0) (rw (e, f) at h) in rw (eqb-true k boolean_kind f, eqb-true v 0 p.1) (bool w (ltb-true w 2 p.0)))
          (λ f. let p = and_parts (eqb k decimal_kind) (within 1 places_most v) (rw (e, f) at h) in rw (eqb-true k decimal_kind p.0) (dec w v p.1)))

pub kind-most : (a : Constant) → is_constant a ≡ true → a.kind ≤ decimal_kind
unfolding integer boolean decimal
kind-most = constant-case (λ a. a.kind ≤ decimal_kind) (λ w. omega arith) (λ w h. omega arith) (λ w p h. omega arith)

-- ---- words of no constant

-- one that is no decimal has no third word
pub unused-no : (a : Constant) → (a.kind ≡ decimal_kind → ⊥) → (a.second ≡ 0 → ⊥) → is_constant a ≡ false
unfolding is_constant
unused-no a d h =
    rw (ne_eqb a.kind decimal_kind d, ne_eqb a.second 0 h)
    (either (eqb a.kind integer_kind) (λ e. rw e refl)
    (λ e. either (eqb a.kind boolean_kind) (λ f. rw (e, f) (and-none-right (ltb a.first 2) false refl)) (λ f. rw (e, f) refl)))

pub kind-no : (a : Constant) → boolean_kind < a.kind → (a.kind ≡ decimal_kind → ⊥) → is_constant a ≡ false
unfolding is_constant
kind-no a l d = rw (ne_eqb a.kind integer_kind (λ e. omega arith), ne_eqb a.kind boolean_kind (λ e. omega arith), ne_eqb a.kind decimal_kind d) refl

-- ---- words

module _ (a : Constant) where
  pub words-decimal : a.kind ≡ decimal_kind → constant_words a ≡ 9 ∷ a.first ∷ a.second ∷ []
  unfolding constant_words
  words-decimal e = rw e

  pub words-other : (a.kind ≡ decimal_kind → ⊥) → constant_words a ≡ suc a.kind ∷ a.first ∷ []
  unfolding constant_words
  words-other n = rw (ne_eqb a.kind decimal_kind n)

  -- two or three of them
  pub words-few : (2 ≤ length (constant_words a)) × (length (constant_words a) ≤ 3)
  unfolding constant_words
  words-few = either (eqb a.kind decimal_kind) (λ e. rw e (omega arith, omega arith)) (λ e. rw e (omega arith, omega arith))
