-- Evaluation a node at a time, without gas: what a node gives where a unit is left, and what is left to do when a value comes.
-- A machine that goes from node to node keeps what these say.
use Rattle.std.specs.Prelude.{◌≡◌, Bool, true, false, cond, ℕ, suc, ◌+◌, ◌≤◌, ◌<◌, ltb}
use Rattle.std.proofs.Math.Path.{refl, ap}
use Rattle.std.proofs.Common.{sym, ◌∙◌, arith, lt-ltb, ltb-true, ltb-false}
use mathlib.Core.List.{List, [], ◌∷◌, ◌++◌, append_assoc}
use Rattle.words.specs.ListLaws.{either}
use Rattle.evaluation.specs.Code.{Code, if_r, application_r, Codes, none_r, more_r}
use Rattle.evaluation.specs.Computation.{Out, done, refused, M, go_on, ◌>>=◌, ◌>>◌, give, refuse, spend, spend_if}
use Rattle.evaluation.specs.Numbers.{Numbers}
use Rattle.evaluation.specs.Evaluate.{Value, Environment, holds, evaluate_all, evaluate_if, apply, evaluate_application, evaluate_node, evaluate}
use Rattle.evaluation.proofs.GrowsLaws.{evaluate-grows}
use Rattle.evaluation.specs.KinLaws.{Same, tight}
use Rattle.evaluation.proofs.KinLaws.{code-kin, environment-kin, numbers-kin}
use Rattle.evaluation.proofs.SideBySide.{units-out, node-beside, evaluate-beside}
use Rattle.evaluation.proofs.BudgetClaim.{same-budget}

-- ---- computations

module _ {A B : Type 0} where
  pub bind-same : (n n' : M A) (f f' : A → M B) (u : ℕ) → n u ≡ n' u → ((a : A) (t : ℕ) → f a t ≡ f' a t) → (◌>>=◌ n f) u ≡ (◌>>=◌ n' f') u
  unfolding ◌>>=◌ go_on
  bind-same n n' f f' u e k = ap (go_on f) e ∙ go (n' u)
    where
      go : (o : Out A) → go_on f o ≡ go_on f' o
      go (done a t) = k a t
      go (refused g t) = refl

  pub bind_assoc : {C : Type 0} (n : M A) (f : A → M B) (g : B → M C) (u : ℕ) → (◌>>=◌ (◌>>=◌ n f) g) u ≡ (◌>>=◌ n (λ a. ◌>>=◌ (f a) g)) u
  unfolding ◌>>=◌ go_on
  bind_assoc n f g u = go (n u)
    where
      go : (o : Out A) → go_on g (go_on f o) ≡ go_on (λ a. ◌>>=◌ (f a) g) o
      go (done a t) = refl
      go (refused h t) = refl

module _ {N : Type 0} (D : Numbers N) (m : ℕ) where
  -- gas past the budget
  unfoldable pub value : Code → Environment N → M (Value N)
  value c e = evaluate D m (suc m) c e

  -- ---- a node

  -- its unit is missing
  pub value_out : (c : Code) (e : Environment N) (u : ℕ) → m ≤ u → value c e u ≡ refused 27 u
  unfolding value
  value_out c e u h = units-out D m (suc m) c e u h

  -- its unit is spent
  pub value-step : (c : Code) (e : Environment N) (u : ℕ) → u < m → value c e u ≡ evaluate_node D value c e (suc u)
  unfolding value evaluate ◌>>◌ go_on spend spend_if
  value-step c e u h =
      rw (lt-ltb u m h)
      (same-budget D
      (node-beside Same Same tight D D (numbers-kin D) m m _ _ (evaluate-grows D m (suc m)) (suc u)
      (λ t i j c c' e e'. evaluate-beside Same Same tight D D (numbers-kin D) m m (omega arith) m (suc m) t (omega arith) (omega arith) j {c = c} {c' = c'} {e = e} {e' = e'})
      (omega arith) (code-kin Same (λ n. refl) c) (environment-kin e)))

  -- ---- what waits for a value

  -- the test of an if; or a part of an application: the values of the parts before it, head first, and the parts behind it
  pub data Waiting : Type 0 where
    test_w : (yes no : Code) → Environment N → Waiting
    parts_w : List (Value N) → Codes → Environment N → Waiting

  -- a head and its operands
  unfoldable pub apply_all : List (Value N) → M (Value N)
  apply_all [] = refuse 25
  apply_all (h ∷ vs) = apply D value h vs

  -- what is done with a value that has come, the innermost first
  unfoldable pub resume : List Waiting → Value N → M (Value N)
  resume [] v = give v
  resume (test_w y z e ∷ k) v = do
    w ← value (cond (holds v) y z) e
    resume k w
  resume (parts_w vs cs e ∷ k) v = do
    ws ← evaluate_all D value cs e
    w ← apply_all (vs ++ (v ∷ ws))
    resume k w

  -- a code's value, and then the rest
  unfoldable pub begins : Code → Environment N → List Waiting → M (Value N)
  begins c e k = do
    v ← value c e
    resume k v

  -- ---- turns

  pub begins-out : (c : Code) (e : Environment N) (k : List Waiting) (u : ℕ) → m ≤ u → begins c e k u ≡ refused 27 u
  unfolding begins ◌>>=◌ go_on
  begins-out c e k u h = rw (value_out c e u h)

  -- a node that has its value, or its ground, at once
  pub begins-node : (c : Code) (e : Environment N) (k : List Waiting) (u : ℕ) → u < m → begins c e k u ≡ (◌>>=◌ (evaluate_node D value c e) (resume k)) (suc u)
  unfolding begins ◌>>=◌
  begins-node c e k u h = ap (go_on (resume k)) (value-step c e u h)

  pub begins-if : (x y z : Code) (e : Environment N) (k : List Waiting) (u : ℕ) → u < m → begins (if_r x y z) e k u ≡ begins x e (test_w y z e ∷ k) (suc u)
  unfolding evaluate_node evaluate_if begins resume
  begins-if x y z e k u h = begins-node (if_r x y z) e k u h ∙ bind_assoc (value x e) _ (resume k) (suc u)

  pub begins-application : (f : Code) (cs : Codes) (e : Environment N) (k : List Waiting) (u : ℕ) → u < m
      → begins (application_r f cs) e k u ≡ begins f e (parts_w [] cs e ∷ k) (suc u)
  unfolding evaluate_node evaluate_application begins resume apply_all
  begins-application f cs e k u h =
      begins-node (application_r f cs) e k u h
      ∙ bind_assoc (value f e) _ (resume k) (suc u)
      ∙ bind-same (value f e) (value f e) _ _ (suc u) refl (λ v t. bind_assoc (evaluate_all D value cs e) _ (resume k) t)

  -- a value comes to a test
  pub comes-test : (y z : Code) (e : Environment N) (k : List Waiting) (v : Value N) (u : ℕ) → resume (test_w y z e ∷ k) v u ≡ begins (cond (holds v) y z) e k u
  unfolding resume begins
  comes-test y z e k v u = refl

  -- a value comes, and a part is left
  pub comes-part : (vs : List (Value N)) (c : Code) (cs : Codes) (e : Environment N) (k : List Waiting) (v : Value N) (u : ℕ)
      → resume (parts_w vs (more_r c cs) e ∷ k) v u ≡ begins c e (parts_w (vs ++ (v ∷ [])) cs e ∷ k) u
  unfolding resume begins evaluate_all give apply_all ◌>>=◌ go_on
  comes-part vs c cs e k v u =
      bind_assoc (value c e) _ _ u
      ∙ bind-same (value c e) (value c e) _ _ u refl (λ a t.
      bind_assoc (evaluate_all D value cs e) _ _ t
      ∙ bind-same (evaluate_all D value cs e) (evaluate_all D value cs e) _ _ t refl (λ b s.
      ap (λ (l : List (Value N)). (◌>>=◌ (apply_all l) (resume k)) s) (sym (append_assoc vs (v ∷ []) (a ∷ b)))))

  -- a value comes, and none is left
  pub comes-last : (vs : List (Value N)) (e : Environment N) (k : List Waiting) (v : Value N) (u : ℕ)
      → resume (parts_w vs none_r e ∷ k) v u ≡ (◌>>=◌ (apply_all (vs ++ (v ∷ []))) (resume k)) u
  unfolding resume evaluate_all ◌>>=◌ go_on give
  comes-last vs e k v u = refl
