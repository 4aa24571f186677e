-- Sums and differences that 32 bits hold, and those that they do not; the sameness of numbers.
use Rattle.std.specs.Prelude.{◌≡◌, refl, nat_eq, true, eqb, leb, ltb, ℕ, ℤ, pos, negsuc, ◌+ℤ◌, ◌-ℤ◌, Option, Some, None, SomeIff, FitsSigned, Result, Ok, Err, MatchResult}
use Rattle.std.specs.Option.{ok_or}
use Rattle.std.proofs.Math.Path.{sym, ap, ap₂}
use Rattle.std.proofs.Common.{◌∙◌, arith, subst, true≢false, Fits, to_z, of_z, ltb-true, leb-true, eqb-true, lt-ltb, le-leb, eq-eqb}
use Rattle.std.proofs.Math.Bool.{◌&&◌}
use Rattle.std.proofs.lemmas.Int.{to_z-of_z}
use Rattle.std.proofs.Math.Facts.{of_z-to_z, to_z_inj}
use Rattle.std.specs.Int.Signed.{mag, lt_z}
use Rattle.std.specs.Int.{w32}
use Rattle.words.specs.ListLaws.{either}
use Rattle.words.specs.TestLaws.{and_left, and_right, and_both, iff-eq}
use Rattle.words.specs.declared.ground.Ground.{Ground}
use Rattle.words.specs.declared.ground.Ground.TheVariants.{WrongKind}
use Rattle.evaluation.specs.Computation.{answer, ground_number, map_answer}
use Rattle.evaluation.specs.Numbers.{in_range, within32, equal_z, integers}
use Rattle.evaluation.specs.Evaluate.{number_v, boolean_v, operations, operate}
use Rattle.runner.specs.Rows.{number_i}
use Rattle.runner.specs.Made.{MadeIs, made_by}
use Rattle.runner.specs.declared.rows.Value.TheVariants as RV

-- ---- sums and differences

module _ (z : ℤ) where
  -- one that fits
  within-some : FitsSigned w32 z → map_answer number_v (within32 z) ≡ answer (number_v z)
  unfolding map_answer within32 in_range
  within-some f = rw (lt-ltb (mag z) 2147483648 f.sfits)

  -- one that does not is ground 25
  within-none : ¬ FitsSigned w32 z → map_answer number_v (within32 z) ≡ ground_number 25
  unfolding map_answer within32 in_range
  within-none n = either (ltb (mag z) 2147483648) (λ e. absurd (n (record { sfits = ltb-true (mag z) 2147483648 e }))) (λ e. rw e)

  -- what is made of it, by its word
  abbrev Tells : Result ℤ Ground → Type 0
  Tells r = MatchResult r (λ s. MadeIs (map_answer number_v (within32 z)) (Ok (RV.Number (of_z w32 (to_z w32 (of_z w32 s)))))) (λ g. MadeIs (map_answer number_v (within32 z)) (Err g))

  tells : (o : Option ℤ) → SomeIff o (FitsSigned w32 z) z → Tells (ok_or o WrongKind)
  tells None n = made_by (Err WrongKind) (sym (within-none n)) refl
  tells (Some s) (f, e) =
      let back = to_z-of_z w32 z f in
      let word = λ (x : ℤ). to_z w32 (of_z w32 x) in
      made_by _ (sym (within-some f)) (λ ws t top. number_i _ refl (ap number_v (sym (ap word (ap word e ∙ back) ∙ back))))

  module _ (o : Option ℤ) (h : SomeIff o (FitsSigned w32 z) z) (r : Result ℤ Ground) (i : r ≡ ok_or o WrongKind) where
    pub number-some : (s : ℤ) → r ≡ Ok s → MadeIs (map_answer number_v (within32 z)) (Ok (RV.Number (of_z w32 (to_z w32 (of_z w32 s)))))
    number-some s e = subst Tells (sym i ∙ e) (tells o h)

    pub number-none : (g : Ground) → r ≡ Err g → MadeIs (map_answer number_v (within32 z)) (Err g)
    number-none g e = subst Tells (sym i ∙ e) (tells o h)

-- ---- sameness

both_equal : (a b : ℕ) → (leb a b && leb b a) ≡ eqb a b
both_equal a b =
    iff-eq _ _
    (λ e. eq-eqb a b (omega (arith, leb-true a b (and_left (leb a b) _ e), leb-true b a (and_right (leb a b) _ e))))
    (λ e. let q = eqb-true a b e in and_both _ _ (le-leb a b (omega arith)) (le-leb b a (omega arith)))

equal-is : (a b : ℤ) → equal_z a b ≡ true → a ≡ b
unfolding equal_z
equal-is (pos a) (pos b) e = ap pos (eqb-true a b (sym (both_equal a b) ∙ e))
equal-is (pos a) (negsuc b) e = absurd (true≢false (sym e))
equal-is (negsuc a) (pos b) e = absurd (true≢false (sym e))
equal-is (negsuc a) (negsuc b) e = ap negsuc (sym (eqb-true b a (sym (both_equal b a) ∙ e)))

equal-same : (a : ℤ) → equal_z a a ≡ true
unfolding equal_z
equal-same (pos a) = both_equal a a ∙ eq-eqb a a refl
equal-same (negsuc a) = both_equal a a ∙ eq-eqb a a refl

-- ---- operations, on the numbers a and b of two words

-- a number read back from its word
abbrev pub word : ℤ → ℤ
word x = to_z w32 (of_z w32 x)

module _ (m n : ℕ) (a b : ℤ) (i : a ≡ to_z w32 m) (j : b ≡ to_z w32 n) (f : Fits w32 m) (g : Fits w32 n) where
  first : word a ≡ to_z w32 m
  first = ap word i ∙ ap (to_z w32) (of_z-to_z f)

  second : word b ≡ to_z w32 n
  second = ap word j ∙ ap (to_z w32) (of_z-to_z g)

  pub sum-told : map_answer number_v (within32 (word a +ℤ word b)) ≡ operate integers 0 (to_z w32 m) (to_z w32 n)
  unfolding operate operations integers
  sum-told = ap (λ z. map_answer number_v (within32 z)) (ap₂ ◌+ℤ◌ first second)

  pub difference-told : map_answer number_v (within32 (word a -ℤ word b)) ≡ operate integers 1 (to_z w32 m) (to_z w32 n)
  unfolding operate operations integers
  difference-told = ap (λ z. map_answer number_v (within32 z)) (ap₂ ◌-ℤ◌ first second)

  pub less-told : answer (boolean_v (lt_z (word a) (word b))) ≡ operate integers 2 (to_z w32 m) (to_z w32 n)
  unfolding operate operations integers map_answer
  less-told = ap (λ z. answer (boolean_v z)) (ap₂ lt_z first second)

  same : nat_eq (of_z w32 a) (of_z w32 b) ≡ equal_z (to_z w32 m) (to_z w32 n)
  same =
      ap₂ nat_eq (ap (of_z w32) i ∙ of_z-to_z f) (ap (of_z w32) j ∙ of_z-to_z g)
      ∙ iff-eq _ _
      (λ e. subst (λ k. equal_z (to_z w32 m) (to_z w32 k) ≡ true) (eqb-true m n e) (equal-same (to_z w32 m)))
      (λ e. eq-eqb m n (to_z_inj f g (equal-is _ _ e)))

  pub equal-told : answer (boolean_v (nat_eq (of_z w32 a) (of_z w32 b))) ≡ operate integers 3 (to_z w32 m) (to_z w32 n)
  unfolding operate operations integers map_answer
  equal-told = ap (λ z. answer (boolean_v z)) same
