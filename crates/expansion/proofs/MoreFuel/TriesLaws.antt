-- A computation on one fuel beside the same on more: they go alike, or the first is 18 and the second goes past its fuel; or the first is
-- refused on a ground that is let be. One rule for each way of making a computation; `step-tries` alone is about a line that differs.
use Rattle.std.specs.Prelude.{◌≡◌, refl, Bool, leb}
use Rattle.std.proofs.Math.Bool.{true, false}
use Rattle.std.proofs.lemmas.Bool.{false≢true}
use mathlib.Core.List.{List, []}
use Rattle.std.proofs.Math.Option.{Option, none, some}
use Prim.Native.Nat.{ℕ, suc, ◌+◌, ◌≤◌, ◌<◌}
use Rattle.std.proofs.Common.{arith}
use borrow.Author.Tests.{leb-true, leb-false, le-leb}
use Rattle.expansion.specs.Rules.{Rule}
use Rattle.expansion.specs.Computation.{State, Events, Out, done, refused, starved, M, after, go_on, ◌>>=◌, ◌>>◌, give, refuse, show, test, or_refuse, get, add_variables, add_macros, add_step}
use Rattle.expansion.specs.Outcomes.{is_done, is_refused, is_starved}
use Rattle.expansion.proofs.OutcomesLaws.{after_holds, weaken}
use Rattle.expansion.specs.MoreFuel.Tries.{Above, Beside, Tries, alike, quits, short, starves}

above-less : {A : Type 0} (m n : ℕ) {o : Out A} → m ≤ n → Above n o → Above m o
above-less m n h p = weaken p (λ x. x) (λ g u l q. omega (arith, q)) (λ a u l q. omega (arith, q))

module _ {A B : Type 0} where
  go_on-above : (n : ℕ) (f : A → M B) (o : Out A) → Above n o → ((a : A) (t : State) → Above t.sum (f a t)) → Above n (go_on f o)
  unfolding go_on
  go_on-above n f (done a t l) (is_done p) k = after_holds l (f a t) (above-less n t.sum p (k a t))
  go_on-above n f (refused g t l) (is_refused p) k = is_refused p
  go_on-above n f (starved l) (is_starved p) k = is_starved p

module _ (let-be : ℕ → Bool) (fuel : ℕ) {A : Type 0} where
  -- ---- both the same

  tries-refused : (g : ℕ) (s : State) (l : Events) → Tries let-be fuel {A = A} s (refused g s l) (refused g s l)
  tries-refused g s l = record { grown = is_refused {s = s} (omega arith); beside = alike }

  beside-after : (l : Events) {x y : Out A} → Beside let-be fuel x y → Beside let-be fuel (after l x) (after l y)
  unfolding after
  beside-after l alike = alike
  beside-after l (short {y = y} h) = short (after_holds l y h)
  beside-after l (quits e) = quits e
  beside-after l starves = starves

  -- from s to t, where l is shown, and on from there
  tries-after : (s t : State) (l : Events) {x y : Out A} → s.sum ≤ t.sum → Tries let-be fuel t x y → Tries let-be fuel s (after l x) (after l y)
  tries-after s t l {x} {y} h r = record { grown = after_holds l y (above-less s.sum t.sum h r.grown); beside = beside-after l r.beside }

  pub same-tries : (s : State) (o : Out A) → Above s.sum o → Tries let-be fuel s o o
  same-tries s o h = record { grown = h; beside = alike }

  pub give-tries : (a : A) (s : State) → Tries let-be fuel s (give a s) (give a s)
  unfolding give
  give-tries a s = record { grown = is_done {s = s} (omega arith); beside = alike }

  pub refuse-tries : (g : ℕ) (s : State) → Tries let-be fuel {A = A} s (refuse g s) (refuse g s)
  unfolding refuse
  refuse-tries g s = tries-refused g s []

  pub test-tries : (g : ℕ) (b : Bool) (n n' : M A) (s : State) → Tries let-be fuel s (n s) (n' s) → Tries let-be fuel s ((◌>>◌ (test g b) n) s) ((◌>>◌ (test g b) n') s)
  unfolding ◌>>◌ go_on test
  test-tries g true n n' s r = tries-after s s [] (omega arith) r
  test-tries g false n n' s r = tries-refused g s []

  pub show-tries : (l : Events) (n n' : M A) (s : State) → Tries let-be fuel s (n s) (n' s) → Tries let-be fuel s ((◌>>◌ (show l) n) s) ((◌>>◌ (show l) n') s)
  unfolding ◌>>◌ go_on show
  show-tries l n n' s r = tries-after s s l (omega arith) r

  pub get-tries : (f f' : State → M A) (s : State) → Tries let-be fuel s (f s s) (f' s s) → Tries let-be fuel s ((◌>>=◌ get f) s) ((◌>>=◌ get f') s)
  unfolding ◌>>=◌ go_on get
  get-tries f f' s r = tries-after s s [] (omega arith) r

  pub add_variables-tries : (k : ℕ) (n n' : M A) (s : State) → ((t : State) → Tries let-be fuel t (n t) (n' t)) → Tries let-be fuel s ((◌>>◌ (add_variables k) n) s) ((◌>>◌ (add_variables k) n') s)
  unfolding ◌>>◌ go_on add_variables
  add_variables-tries k n n' s r = tries-after s _ [] (omega arith) (r _)

  pub add_macros-tries : (rules : List (List Rule)) (n n' : M A) (s : State) → ((t : State) → Tries let-be fuel t (n t) (n' t)) → Tries let-be fuel s ((◌>>◌ (add_macros rules) n) s) ((◌>>◌ (add_macros rules) n') s)
  unfolding ◌>>◌ go_on add_macros
  add_macros-tries rules n n' s r = tries-after s _ [] (omega arith) (r _)

  -- ---- the one place where fuel is read: a step that costs k

  module _ (more : ℕ) (h : fuel ≤ more) where
    pub step-tries : (k : ℕ) (n n' : M A) (s : State) → ((t : State) → Tries let-be fuel t (n t) (n' t))
        → Tries let-be fuel s ((◌>>◌ (test 18 (leb (s.sum + k) fuel)) (◌>>◌ (add_step k) n)) s) ((◌>>◌ (test 18 (leb (s.sum + k) more)) (◌>>◌ (add_step k) n')) s)
    unfolding ◌>>◌ go_on test add_step after
    step-tries k n n' s r =
        let cost = s.sum + k in
        go (leb cost fuel) (leb cost more) (leb-false cost fuel) (λ e. le-leb cost more (omega (arith, leb-true cost fuel e)))
      where
        next : State
        next = record { steps = suc s.steps; sum = s.sum + k; variables = s.variables; macros = s.macros }

        go : (b c : Bool) → (b ≡ false → fuel < s.sum + k) → (b ≡ true → c ≡ true) → Tries let-be fuel s ((◌>>◌ (test 18 b) (◌>>◌ (add_step k) n)) s) ((◌>>◌ (test 18 c) (◌>>◌ (add_step k) n')) s)
        -- both pass, the second passes alone, or neither does
        go true true x y = tries-after s s [] (omega arith) (tries-after s next [] (omega arith) (r next))
        go true false x y = absurd (false≢true (y refl))
        go false true x y =
            let past : (m : ℕ) → m ≤ next.sum → Above m (after [] (after [] (n' next))) = λ m le. after_holds [] _ (after_holds [] (n' next) (above-less m next.sum le (r next).grown)) in
            record { grown = past s.sum (omega arith); beside = short (past (suc fuel) (omega (arith, x refl))) }
        go false false x y = tries-refused 18 s []

module _ (let-be : ℕ → Bool) (fuel : ℕ) {A B : Type 0} where
  pub then-tries : (m m' : M A) (f f' : A → M B) (s : State) → Tries let-be fuel s (m s) (m' s) → ((a : A) (t : State) → Tries let-be fuel t (f a t) (f' a t)) → Tries let-be fuel s ((◌>>=◌ m f) s) ((◌>>=◌ m' f') s)
  unfolding ◌>>=◌ go_on
  then-tries m m' f f' s r k = record { grown = go_on-above s.sum f' (m' s) r.grown grows; beside = go r.beside }
    where
      grows : (a : A) (t : State) → Above t.sum (f' a t)
      grows a t = (k a t).grown

      both : (x : Out A) → Beside let-be fuel (go_on f x) (go_on f' x)
      both (done a t l) = beside-after let-be fuel l (k a t).beside
      both (refused g t l) = alike
      both (starved l) = alike

      go : {x y : Out A} → Beside let-be fuel x y → Beside let-be fuel (go_on f x) (go_on f' y)
      go (alike {x = x}) = both x
      go (short {y = y} h) = short (go_on-above (suc fuel) f' y h grows)
      go (quits e) = quits e
      go starves = starves

  pub or_refuse-tries : (g : ℕ) (o : Option A) (f f' : A → M B) (s : State) → ((a : A) → Tries let-be fuel s (f a s) (f' a s)) → Tries let-be fuel s ((◌>>=◌ (or_refuse g o) f) s) ((◌>>=◌ (or_refuse g o) f') s)
  unfolding ◌>>=◌ go_on or_refuse
  or_refuse-tries g none f f' s k = tries-refused let-be fuel g s []
  or_refuse-tries g (some a) f f' s k = tries-after let-be fuel s s [] (omega arith) (k a)
