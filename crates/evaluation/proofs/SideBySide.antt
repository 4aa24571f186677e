-- Two evaluations side by side: of codes that are kin, in environments that are kin, by numbers that are kin, on a budget and on no less,
-- from the same units on. One induction over the gas.
use Rattle.std.specs.Prelude.{◌≡◌, Bool, true, false, cond, List, [], ◌∷◌, eqb, ltb, length, get_or}
use Rattle.std.proofs.Math.Path.{refl}
use Rattle.std.proofs.Common.{subst, ap, arith, ltb-true, ltb-false, le-ltb}
use Rattle.std.proofs.Math.Option.{Option, none, some}
use Prim.Native.Nat.{ℕ, zero, suc, ◌+◌, ◌≤◌, ◌<◌}
use Rattle.datum.specs.Constant.{Constant}
use Rattle.evaluation.specs.Code.{Code, Codes}
use Rattle.evaluation.specs.Computation.{Out, refused, M, ◌>>◌, refuse, spend, spend_if, go_on, Answer, answer, ground_number}
use Rattle.evaluation.specs.Numbers.{Numbers}
use Rattle.evaluation.specs.Evaluate.{Value, number_v, boolean_v, Environment, find, bind, holds, number_of, is_two, operand, constant_value, operations, operate, evaluate_all, evaluate_if, apply, evaluate_application, evaluate_node, evaluate}
use Rattle.evaluation.specs.Grows.{units, Grows}
use Rattle.evaluation.proofs.GrowsLaws.{give-grows, or_refuse-grows, or_ground-grows, then_grows, all-grows, apply-grows, node-grows, evaluate-grows}
use Rattle.evaluation.specs.Kin.{CodeKin, variable_k, operation_k, constant_k, quoted_k, if_k, lambda_k, application_k, CodesKin, none_k, more_k, ValueKin, number_k, boolean_k, datum_k, closure_k, operator_k, EnvironmentKin, empty_k, bound_k, Each, none_l, more_l, Either, neither, each, Answers, answers, grounds, loosens, NumbersKin}
use Rattle.evaluation.specs.Beside.{Beside, both, alike, short, freed}
use Rattle.evaluation.proofs.BesideLaws.{from_less, give-beside, refuse-beside, test-beside, out-beside, spend-beside, or_refuse-beside, or_ground-beside, then-beside, map_answer-answers}

-- an element of each of two lists
pub each_at : {A B : Type 0} (R : A → B → Type 0) {xs : List A} {ys : List B} (i : ℕ) (a : A) (b : B) → R a b → Each R xs ys → R (get_or xs i a) (get_or ys i b)
each_at R i a b r none_l = r
each_at R zero a b r (more_l q qs) = q
each_at R (suc i) a b r (more_l q qs) = each_at R i a b r qs

pub each-length : {A B : Type 0} (R : A → B → Type 0) {xs : List A} {ys : List B} → Each R xs ys → length xs ≡ length ys
each-length R none_l = refl
each-length R (more_l q qs) = ap suc (each-length R qs)

-- no unit is left
pub units-out : {N : Type 0} (D : Numbers N) (m gas : ℕ) (c : Code) (e : Environment N) (u : ℕ) → m ≤ u → evaluate D m gas c e u ≡ refused 27 u
unfolding evaluate refuse ◌>>◌ go_on spend spend_if
units-out D m zero c e u h = refl
units-out D m (suc gas) c e u h = rw (le-ltb u m h)

module _ {N N' : Type 0} (S : N → N' → Type 0) (P : ℕ → ℕ → Type 0) where
  abbrev pub Kin : Value N → Value N' → Type 0
  Kin = ValueKin S P

  found : (b : Bool) {v : Value N} {v' : Value N'} {o : Option (Value N)} {o' : Option (Value N')} → Kin v v' → Either Kin o o' → Either Kin (cond b (some v) o) (cond b (some v') o')
  found true q r = each q
  found false q r = r

  find-kin : (n : ℕ) {e : Environment N} {e' : Environment N'} → EnvironmentKin S P e e' → Either Kin (find n e) (find n e')
  unfolding find
  find-kin n empty_k = neither
  find-kin n (bound_k {n = m} q qs) = found (eqb n m) q (find-kin n qs)

  pub bind-kin : (k : ℕ) {vs : List (Value N)} {vs' : List (Value N')} {e : Environment N} {e' : Environment N'} → Each Kin vs vs' → EnvironmentKin S P e e'
      → EnvironmentKin S P (bind k vs e) (bind k vs' e')
  unfolding bind
  bind-kin k none_l q = q
  bind-kin k (more_l v vs) q = bind-kin (suc k) vs (bound_k v q)

  holds-kin : {v : Value N} {v' : Value N'} → Kin v v' → holds v ≡ holds v'
  unfolding holds
  holds-kin (number_k s) = refl
  holds-kin boolean_k = refl
  holds-kin (datum_k p) = refl
  holds-kin (closure_k c e) = refl
  holds-kin operator_k = refl

  number_of-kin : {v : Value N} {v' : Value N'} → Kin v v' → Either S (number_of v) (number_of v')
  unfolding number_of
  number_of-kin (number_k s) = each s
  number_of-kin boolean_k = neither
  number_of-kin (datum_k p) = neither
  number_of-kin (closure_k c e) = neither
  number_of-kin operator_k = neither

  choice-kin : (b : Bool) {y z y' z' : Code} → CodeKin P y y' → CodeKin P z z' → CodeKin P (cond b y z) (cond b y' z')
  choice-kin true q r = q
  choice-kin false q r = r

  module _ (loose : ℕ → Bool) (D : Numbers N) (D' : Numbers N') (kin : NumbersKin loose S D D') where
    constant-kin : (a : Constant) → Answers loose Kin (constant_value D a) (constant_value D' a)
    unfolding constant_value
    constant-kin a =
        go a.kind
      where
        go : (k : ℕ) → Answers loose Kin (get_or (ground_number 25 ∷ answer (number_v (D.of_word a.first)) ∷ answer (boolean_v (eqb a.first 1)) ∷ []) k (ground_number 25))
            (get_or (ground_number 25 ∷ answer (number_v (D'.of_word a.first)) ∷ answer (boolean_v (eqb a.first 1)) ∷ []) k (ground_number 25))
        go zero = grounds
        go (suc zero) = answers (number_k (kin.of_word a.first))
        go (suc (suc zero)) = answers boolean_k
        go (suc (suc (suc k))) = grounds

    boolean-kin : (a b : Bool) → a ≡ b → Kin (boolean_v a) (boolean_v b)
    boolean-kin a b h = subst (λ z. Kin (boolean_v a) (boolean_v z)) h boolean_k

    operate-kin : (p : ℕ) (a b : N) (a' b' : N') → S a a' → S b b' → Answers loose Kin (operate D p a b) (operate D' p a' b')
    unfolding operate operations
    operate-kin zero a b a' b' r s = map_answer-answers 0 0 loose S Kin number_v number_v (λ x y q. number_k q) (kin.sum a b a' b' r s)
    operate-kin (suc zero) a b a' b' r s = map_answer-answers 0 0 loose S Kin number_v number_v (λ x y q. number_k q) (kin.difference a b a' b' r s)
    operate-kin (suc (suc zero)) a b a' b' r s = map_answer-answers 0 0 loose _ Kin boolean_v boolean_v boolean-kin (kin.less a b a' b' r s)
    operate-kin (suc (suc (suc zero))) a b a' b' r s = map_answer-answers 0 0 loose _ Kin boolean_v boolean_v boolean-kin (kin.equal a b a' b' r s)
    operate-kin (suc (suc (suc (suc p)))) a b a' b' r s = grounds

    module _ (m m' : ℕ) where
      -- from u units on, whatever the codes and environments
      abbrev pub Agree : ℕ → (Code → Environment N → M (Value N)) → (Code → Environment N' → M (Value N')) → Type 0
      Agree u rec rec' =
          (t : ℕ) → u ≤ t → t ≤ m → (c c' : Code) (e : Environment N) (e' : Environment N') → CodeKin P c c' → EnvironmentKin S P e e'
          → Beside m m' loose Kin t (rec c e t) (rec' c' e' t)

      module _ (rec : Code → Environment N → M (Value N)) (rec' : Code → Environment N' → M (Value N')) (grows : (c : Code) (e : Environment N') → Grows (rec' c e)) where
        all-beside : (u : ℕ) → Agree u rec rec' → u ≤ m → {cs cs' : Codes} {e : Environment N} {e' : Environment N'} → CodesKin P cs cs' → EnvironmentKin S P e e'
            → Beside m m' loose (Each Kin) u (evaluate_all D rec cs e u) (evaluate_all D' rec' cs' e' u)
        unfolding evaluate_all
        all-beside u good h none_k q = give-beside m m' loose (Each Kin) _ _ u h none_l
        all-beside u good h {e' = e'} (more_k {cs' = cs'} c cs) q =
            then-beside m m' loose Kin (Each Kin) _ _ _ _ u (good u (omega arith) h _ _ _ _ c q) (λ b. then_grows _ _ (all-grows D' rec' grows cs' e') λ _. give-grows _) λ a a' t l k r.
            then-beside m m' loose (Each Kin) (Each Kin) _ _ _ _ t (all-beside t (λ i j. good i (omega arith)) k cs q) (λ b. give-grows _) λ b b' i _ j s.
            give-beside m m' loose (Each Kin) _ _ i j (more_l r s)

        apply-beside : (u : ℕ) → Agree u rec rec' → u ≤ m → {v : Value N} {v' : Value N'} {vs : List (Value N)} {vs' : List (Value N')} → Kin v v' → Each Kin vs vs'
            → Beside m m' loose Kin u (apply D rec v vs u) (apply D' rec' v' vs' u)
        unfolding apply is_two operand
        apply-beside u good h (number_k s) vs = refuse-beside m m' loose Kin 25 u
        apply-beside u good h boolean_k vs = refuse-beside m m' loose Kin 25 u
        apply-beside u good h (datum_k p) vs = refuse-beside m m' loose Kin 25 u
        apply-beside u good h (closure_k {first = first} c e) vs =
            rw (each-length Kin vs) (test-beside m m' loose Kin 26 _ _ _ u (good u (omega arith) h _ _ _ _ c (bind-kin first vs e)))
        apply-beside u good h (operator_k {p = p}) vs =
            rw (each-length Kin vs)
            (test-beside m m' loose Kin 26 _ _ _ u
            (then-beside m m' loose S Kin _ _ _ _ u (or_refuse-beside m m' loose S 25 u h (number_of-kin (each_at Kin 0 _ _ boolean_k vs))) (λ b. then_grows _ _ (or_refuse-grows 25 _) λ _. or_ground-grows _) λ a a' t _ k r.
            then-beside m m' loose S Kin _ _ _ _ t (or_refuse-beside m m' loose S 25 t k (number_of-kin (each_at Kin 1 _ _ boolean_k vs))) (λ b. or_ground-grows _) λ b b' i _ j s.
            or_ground-beside m m' loose Kin i j (operate-kin p a b a' b' r s)))

        pub node-beside : (u : ℕ) → Agree u rec rec' → u ≤ m → {c c' : Code} {e : Environment N} {e' : Environment N'} → CodeKin P c c' → EnvironmentKin S P e e'
            → Beside m m' loose Kin u (evaluate_node D rec c e u) (evaluate_node D' rec' c' e' u)
        unfolding evaluate_node evaluate_if evaluate_application
        node-beside u good h (variable_k {n = n}) q = or_refuse-beside m m' loose Kin 25 u h (find-kin n q)
        node-beside u good h (operation_k {p = p}) q = test-beside m m' loose Kin 25 (ltb p 4) _ _ u (give-beside m m' loose Kin _ _ u h operator_k)
        node-beside u good h (constant_k {a = a}) q = or_ground-beside m m' loose Kin u h (constant-kin a)
        node-beside u good h (quoted_k p) q = give-beside m m' loose Kin _ _ u h (datum_k p)
        node-beside u good h (if_k x y z) q =
            then-beside m m' loose Kin Kin _ _ _ _ u (good u (omega arith) h _ _ _ _ x q) (λ b. grows _ _) λ v v' t l k r.
            rw (holds-kin r) (good t l k _ _ _ _ (choice-kin (holds v') y z) q)
        node-beside u good h (lambda_k b) q = give-beside m m' loose Kin _ _ u h (closure_k b q)
        node-beside u good h (application_k f cs) q =
            then-beside m m' loose Kin Kin _ _ _ _ u (good u (omega arith) h _ _ _ _ f q) (λ b. then_grows _ _ (all-grows D' rec' grows _ _) λ _. apply-grows D' rec' grows _ _) λ v v' t l k r.
            then-beside m m' loose (Each Kin) Kin _ _ _ _ t (all-beside t (λ i j. good i (omega arith)) k cs q) (λ b. apply-grows D' rec' grows _ _) λ vs vs' i w j s.
            apply-beside i (λ n p. good n (omega arith)) j r s

      -- gas that is enough on both sides
      pub evaluate-beside : m ≤ m' → (gas gas' u : ℕ) → m ≤ gas + u → m' ≤ gas' + u → u ≤ m → {c c' : Code} {e : Environment N} {e' : Environment N'} → CodeKin P c c'
          → EnvironmentKin S P e e' → Beside m m' loose Kin u (evaluate D m gas c e u) (evaluate D' m' gas' c' e' u)
      unfolding evaluate refuse ◌>>◌
      evaluate-beside l zero zero u g g' h q r = refuse-beside m m' loose Kin 27 u
      evaluate-beside l zero (suc gas') u g g' h q r = out-beside m m' loose Kin _ u (omega arith) (node-grows D' _ (evaluate-grows D' m' gas') _ _)
      evaluate-beside l (suc gas) zero u g g' h {c} {c'} {e} {e'} q r = rw (units-out D m (suc gas) c e u (omega arith)) (refuse-beside m m' loose Kin 27 u)
      evaluate-beside l (suc gas) (suc gas') u g g' h q r =
          spend-beside m m' loose Kin _ _ u l (node-grows D' _ (evaluate-grows D' m' gas') _ _) λ k.
          node-beside _ _ (evaluate-grows D' m' gas') (suc u) (λ t i j c c' e e'. evaluate-beside l gas gas' t (omega arith) (omega arith) j {c = c} {c' = c'} {e = e} {e' = e'}) k q r
