-- Units only grow.
use Rattle.std.specs.Prelude.{Bool, true, false, List, ltb}
use Rattle.std.proofs.Math.Option.{Option, none, some}
use Prim.Native.Nat.{ℕ, zero, suc, ◌≤◌}
use native.Mathlib.Omega.{arith}
use Rattle.evaluation.specs.Code.{Code, variable_r, operation_r, constant_r, quoted_r, if_r, lambda_r, application_r, Codes, none_r, more_r}
use Rattle.evaluation.specs.Computation.{Out, done, refused, M, go_on, ◌>>=◌, ◌>>◌, give, refuse, test, or_refuse, spend_if, spend, Answer, answer, ground_number, or_ground}
use Rattle.evaluation.specs.Numbers.{Numbers}
use Rattle.evaluation.specs.Evaluate.{Value, number_v, boolean_v, datum_v, closure_v, operation_v, Environment, evaluate_all, evaluate_if, apply, evaluate_application, evaluate_node, evaluate}
use Rattle.evaluation.specs.Grows.{Grows, units}

pub refuse-grows : (A : Type 0) (g : ℕ) → Grows (refuse {A = A} g)
unfolding Grows units refuse
refuse-grows A g u = omega arith

module _ {A : Type 0} where
  pub give-grows : (a : A) → Grows (give a)
  unfolding Grows units give
  give-grows a u = omega arith

  pub or_refuse-grows : (g : ℕ) (o : Option A) → Grows (or_refuse g o)
  unfolding Grows units or_refuse
  or_refuse-grows g none u = omega arith
  or_refuse-grows g (some a) u = omega arith

  pub or_ground-grows : (o : Answer A) → Grows (or_ground o)
  unfolding Grows units or_ground
  or_ground-grows (answer a) u = omega arith
  or_ground-grows (ground_number g) u = omega arith

pub test-grows : (g : ℕ) (b : Bool) → Grows (test g b)
unfolding Grows units test
test-grows g true u = omega arith
test-grows g false u = omega arith

pub spend-grows : (m : ℕ) → Grows (spend m)
unfolding Grows units spend spend_if
spend-grows m u = go (ltb u m)
  where
    go : (b : Bool) → u ≤ units (spend_if b u)
    go true = omega arith
    go false = omega arith

module _ {A B : Type 0} where
  -- what is past a number of units stays past it
  pub go_on-grows : (f : A → M B) → ((a : A) → Grows (f a)) → (n : ℕ) (o : Out A) → n ≤ units o → n ≤ units (go_on f o)
  unfolding Grows units go_on
  go_on-grows f k n (done a t) h = omega (arith, k a t)
  go_on-grows f k n (refused g t) h = h

  pub then_grows : (n : M A) (f : A → M B) → Grows n → ((a : A) → Grows (f a)) → Grows (◌>>=◌ n f)
  unfolding Grows ◌>>=◌
  then_grows n f h k u = go_on-grows f k u (n u) (h u)

  pub and-grows : (n : M A) (p : M B) → Grows n → Grows p → Grows (◌>>◌ n p)
  unfolding Grows ◌>>◌
  and-grows n p h k u = go_on-grows (λ a. p) (λ a. k) u (n u) (h u)

module _ {N : Type 0} (D : Numbers N) where
  module _ (rec : Code → Environment N → M (Value N)) (good : (c : Code) (e : Environment N) → Grows (rec c e)) where
    pub all-grows : (cs : Codes) (e : Environment N) → Grows (evaluate_all D rec cs e)
    unfolding evaluate_all
    all-grows none_r e = give-grows _
    all-grows (more_r c cs) e = then_grows _ _ (good c e) λ a. then_grows _ _ (all-grows cs e) λ b. give-grows _

    pub apply-grows : (v : Value N) (vs : List (Value N)) → Grows (apply D rec v vs)
    unfolding apply
    apply-grows (number_v n) vs = refuse-grows _ 25
    apply-grows (boolean_v b) vs = refuse-grows _ 25
    apply-grows (datum_v at) vs = refuse-grows _ 25
    apply-grows (closure_v first count body e) vs = and-grows _ _ (test-grows 26 _) (good body _)
    apply-grows (operation_v p) vs =
        and-grows _ _ (test-grows 26 _)
        (then_grows _ _ (or_refuse-grows 25 _) λ a. then_grows _ _ (or_refuse-grows 25 _) λ b. or_ground-grows _)

    pub node-grows : (c : Code) (e : Environment N) → Grows (evaluate_node D rec c e)
    unfolding evaluate_node evaluate_if evaluate_application
    node-grows (variable_r n) e = or_refuse-grows 25 _
    node-grows (operation_r p) e = and-grows _ _ (test-grows 25 _) (give-grows _)
    node-grows (constant_r a) e = or_ground-grows _
    node-grows (quoted_r at) e = give-grows _
    node-grows (if_r x y z) e = then_grows _ _ (good x e) λ v. good _ e
    node-grows (lambda_r first count body) e = give-grows _
    node-grows (application_r h cs) e = then_grows _ _ (good h e) λ v. then_grows _ _ (all-grows cs e) λ vs. apply-grows v vs

  pub evaluate-grows : (m gas : ℕ) (c : Code) (e : Environment N) → Grows (evaluate D m gas c e)
  unfolding evaluate
  evaluate-grows m zero c e = refuse-grows _ 27
  evaluate-grows m (suc gas) c e = and-grows _ _ (spend-grows m) (node-grows _ (evaluate-grows m gas) c e)
