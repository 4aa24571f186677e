-- Laws of tests of all numbers below one.
use Rattle.std.specs.Prelude.{◌≡◌, ℕ, zero, suc, ◌<◌, ◌≤◌, Bool, true, false, ◌&&◌, ◌==◌, refl}
use Rattle.std.proofs.Common.{sym, ap, ap₂, ◌∙◌, arith, eqb-true}
use Rattle.std.proofs.lemmas.Bool.{false≢true, eqb-false}
use Rattle.words.specs.ListLaws.{either}
use Rattle.expansion.specs.Transcribe.{all_below}

and-false : (b : Bool) → (b && false) ≡ false
and-false true = refl
and-false false = refl

and_self : (b : Bool) → (b && b) ≡ b
and_self true = refl
and_self false = refl

pub and-turned : (a b : Bool) → (a && b) ≡ (b && a)
and-turned true true = refl
and-turned true false = refl
and-turned false true = refl
and-turned false false = refl

and_assoc : (a b c : Bool) → ((a && b) && c) ≡ (a && (b && c))
and_assoc true b c = refl
and_assoc false b c = refl

and-four : (a b c d : Bool) → ((a && b) && (c && d)) ≡ ((a && c) && (b && d))
and-four true true c d = refl
and-four true false c d = sym (and-false c)
and-four false b c d = refl

pub below_true : (f : ℕ → Bool) (c : ℕ) → ((k : ℕ) → true ≡ f k) → true ≡ all_below f c
unfolding all_below
below_true f zero h = refl
below_true f (suc c) h = rw (← below_true f c h, ← h c) refl

pub below_false : (f : ℕ → Bool) (c k : ℕ) → k < c → f k ≡ false → all_below f c ≡ false
unfolding all_below
below_false f zero k h e = absurd (omega arith)
below_false f (suc c) k h e =
    either (k == c)
    (λ t. let z : f c ≡ false = ap f (sym (eqb-true k c t)) ∙ e in rw z (and-false (all_below f c)))
    (λ t. let n : k ≡ c → ⊥ = eqb-false k c t in rw (below_false f c k (omega arith) e) refl)

pub below_both : (f g : ℕ → Bool) (n : ℕ) → all_below (λ i. f i && g i) n ≡ (all_below f n && all_below g n)
unfolding all_below
below_both f g zero = refl
below_both f g (suc n) = ap (λ (b : Bool). b && (f n && g n)) (below_both f g n) ∙ and-four (all_below f n) (all_below g n) (f n) (g n)

pub below-fewer : (g : ℕ → Bool) (a b : ℕ) → a ≤ b → (all_below g a && all_below g b) ≡ all_below g b
unfolding all_below
below-fewer g a zero h = let z : a ≡ 0 = omega arith in rw z refl
below-fewer g a (suc b) h =
    either (a == suc b)
    (λ t. rw (eqb-true a (suc b) t) (and_self (all_below g b && g b)))
    (λ t. sym (and_assoc (all_below g a) (all_below g b) (g b)) ∙ ap (λ (x : Bool). x && g b) (below-fewer g a b (omega (arith, eqb-false a (suc b) t))))

pub below-cong : (f g : ℕ → Bool) (n : ℕ) → ((i : ℕ) → f i ≡ g i) → all_below f n ≡ all_below g n
unfolding all_below
below-cong f g zero h = refl
below-cong f g (suc n) h = ap₂ ◌&&◌ (below-cong f g n h) (h n)

pub below_at : (f : ℕ → Bool) (c k : ℕ) → k < c → all_below f c ≡ true → f k ≡ true
below_at f c k h e = either (f k) (λ t. t) (λ t. absurd (false≢true (sym (below_false f c k h t) ∙ e)))
