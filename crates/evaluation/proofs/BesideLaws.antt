-- A computation on one budget beside a like one on no less: what both give, and one rule for each way of making a computation.
-- Claims about larger budgets, about ranges and about gas are all read off this one relation.
use Rattle.std.specs.Prelude.{◌≡◌, Bool, ℕ, suc, ◌+◌, ◌≤◌, ◌<◌, ltb}
use Rattle.std.proofs.Math.Path.{refl}
use Rattle.std.proofs.Math.Bool.{true, false}
use Rattle.std.proofs.Math.Option.{Option}
use Rattle.std.proofs.Common.{arith, ltb-true, ltb-false, lt-ltb}
use Rattle.evaluation.specs.Computation.{Out, refused, M, go_on, ◌>>=◌, ◌>>◌, give, refuse, test, or_refuse, spend_if, spend, Answer, map_answer, or_ground}
use Rattle.evaluation.specs.Grows.{Grows}
use Rattle.evaluation.proofs.GrowsLaws.{go_on-grows}
use Rattle.evaluation.specs.Kin.{Either, neither, each, Answers, answers, grounds, loosens}
use Rattle.evaluation.specs.Beside.{Beside, alike, both, freed, short}

module _ (m m' : ℕ) (loose : ℕ → Bool) where
  module _ {A B : Type 0} (R : A → B → Type 0) where
    pub from_less : (u t : ℕ) {x : Out A} {y : Out B} → u ≤ t → Beside m m' loose R t x y → Beside m m' loose R u x y
    from_less u t h (both {t = v} k l r) = both {t = v} (omega arith) l r
    from_less u t h alike = alike
    from_less u t h (short l k) = short l k
    from_less u t h (freed l) = freed l

    pub give-beside : (a : A) (b : B) (u : ℕ) → u ≤ m → R a b → Beside m m' loose R u (give a u) (give b u)
    unfolding give
    give-beside a b u h r = both {t = u} (omega arith) h r

    pub refuse-beside : (g u : ℕ) → Beside m m' loose R u (refuse {A = A} g u) (refuse {A = B} g u)
    unfolding refuse
    refuse-beside g u = alike

    pub test-beside : (g : ℕ) (b : Bool) (n : M A) (n' : M B) (u : ℕ) → Beside m m' loose R u (n u) (n' u)
        → Beside m m' loose R u ((◌>>◌ (test g b) n) u) ((◌>>◌ (test g b) n') u)
    unfolding ◌>>◌ go_on test
    test-beside g true n n' u r = r
    test-beside g false n n' u r = alike

    -- ---- the one place where the budgets are read

    -- the first has no unit left
    pub out-beside : (n' : M B) (u : ℕ) → m ≤ u → Grows n' → Beside m m' loose R u (refused 27 u) ((◌>>◌ (spend m') n') u)
    unfolding ◌>>◌ go_on spend spend_if Grows
    out-beside n' u h k = go (ltb u m') (ltb-true u m')
      where
        go : (c : Bool) → (c ≡ true → u < m') → Beside m m' loose R u (refused 27 u) (go_on (λ a. n') (spend_if c u))
        go true x = let l : u < m' = x refl in short {y = n' (suc u)} (omega arith) (omega (arith, k (suc u)))
        go false x = alike

    pub spend-beside : (n : M A) (n' : M B) (u : ℕ) → m ≤ m' → Grows n' → (u < m → Beside m m' loose R (suc u) (n (suc u)) (n' (suc u)))
        → Beside m m' loose R u ((◌>>◌ (spend m) n) u) ((◌>>◌ (spend m') n') u)
    unfolding ◌>>◌ go_on spend spend_if
    spend-beside n n' u l k r = go (ltb u m) (ltb-true u m) (ltb-false u m)
      where
        go : (b : Bool) → (b ≡ true → u < m) → (b ≡ false → m ≤ u) → Beside m m' loose R u (go_on (λ a. n) (spend_if b u)) ((◌>>◌ (spend m') n') u)
        go true x y = let h : u < m = x refl in rw (lt-ltb u m' (omega arith)) (from_less u (suc u) (omega arith) (r h))
        go false x y = out-beside n' u (y refl) k

    pub or_refuse-beside : (g : ℕ) {o : Option A} {p : Option B} (u : ℕ) → u ≤ m → Either R o p → Beside m m' loose R u (or_refuse g o u) (or_refuse g p u)
    unfolding or_refuse
    or_refuse-beside g u h neither = alike
    or_refuse-beside g u h (each r) = both {t = u} (omega arith) h r

    pub or_ground-beside : {o : Answer A} {p : Answer B} (u : ℕ) → u ≤ m → Answers loose R o p → Beside m m' loose R u (or_ground o u) (or_ground p u)
    unfolding or_ground
    or_ground-beside u h (answers r) = both {t = u} (omega arith) h r
    or_ground-beside u h grounds = alike
    or_ground-beside u h (loosens l) = freed l

  module _ {A B C D : Type 0} (R : A → B → Type 0) (S : C → D → Type 0) where
    pub then-beside : (n : M A) (n' : M B) (f : A → M C) (f' : B → M D) (u : ℕ) → Beside m m' loose R u (n u) (n' u) → ((b : B) → Grows (f' b))
        → ((a : A) (b : B) (t : ℕ) → u ≤ t → t ≤ m → R a b → Beside m m' loose S t (f a t) (f' b t))
        → Beside m m' loose S u ((◌>>=◌ n f) u) ((◌>>=◌ n' f') u)
    unfolding ◌>>=◌ go_on
    then-beside n n' f f' u r grows k = go r
      where
        go : {x : Out A} {y : Out B} → Beside m m' loose R u x y → Beside m m' loose S u (go_on f x) (go_on f' y)
        go (both {a = a} {b = b} {t = t} l h q) = from_less S u t l (k a b t l h q)
        go alike = alike
        go (short {y = y} l p) = short l (go_on-grows f' grows (suc m) y p)
        go (freed l) = freed l

  pub map_answer-answers : {A B C D : Type 0} (R : A → B → Type 0) (S : C → D → Type 0) (f : A → C) (f' : B → D) → ((a : A) (b : B) → R a b → S (f a) (f' b))
      → {o : Answer A} {p : Answer B} → Answers loose R o p → Answers loose S (map_answer f o) (map_answer f' p)
  unfolding map_answer
  map_answer-answers R S f f' h (answers {a = a} {b = b} r) = answers (h a b r)
  map_answer-answers R S f f' h grounds = grounds
  map_answer-answers R S f f' h (loosens l) = loosens l
