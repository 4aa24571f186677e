-- What holds of an outcome, and one rule for each way of making a computation: a `do` block is proved line by line.
-- Every law about computations goes by these rules; a claim may speak of the answer, the state, the events and the ground.
use Rattle.std.specs.Prelude.{◌≡◌, refl, Bool, ℕ, suc, ◌+◌}
use Rattle.std.proofs.Math.Bool.{true, false}
use mathlib.Core.List.{List, [], ◌++◌}
use Rattle.std.proofs.Math.Option.{Option, none, some}
use Rattle.expansion.specs.Rules.{Rule}
use Rattle.expansion.specs.Computation.{State, Events, Out, done, refused, starved, M, after, go_on, ◌>>=◌, ◌>>◌, give, refuse, show, test, or_refuse, get, add_variables, add_macros, add_step}
use Rattle.expansion.specs.Outcomes.{Holds, is_done, is_refused, is_starved}

module _ {A : Type 0} {S : Type 0} {R : ℕ → State → Events → Type 0} {Q : A → State → Events → Type 0} where
  -- where l is shown first
  pub after_holds : (l : Events) (o : Out A) → Holds S (λ g u k. R g u (l ++ k)) (λ a u k. Q a u (l ++ k)) o → Holds S R Q (after l o)
  unfolding after
  after_holds l (done a s k) (is_done q) = is_done q
  after_holds l (refused g s k) (is_refused r) = is_refused r
  after_holds l (starved k) (is_starved x) = is_starved x

  pub give_holds : (a : A) (s : State) → Q a s [] → Holds S R Q (give a s)
  unfolding give
  give_holds a s q = is_done q

  pub refuse-holds : (g : ℕ) (s : State) → R g s [] → Holds S R Q (refuse g s)
  unfolding refuse
  refuse-holds g s r = is_refused r

  pub test-holds : (g : ℕ) (b : Bool) (n : M A) (s : State) → R g s [] → (b ≡ true → Holds S R Q (n s)) → Holds S R Q ((◌>>◌ (test g b) n) s)
  unfolding ◌>>◌ go_on test
  test-holds g true n s r k = after_holds [] (n s) (k refl)
  test-holds g false n s r k = is_refused r

  pub show-holds : (l : Events) (n : M A) (s : State) → Holds S (λ g u k. R g u (l ++ k)) (λ a u k. Q a u (l ++ k)) (n s) → Holds S R Q ((◌>>◌ (show l) n) s)
  unfolding ◌>>◌ go_on show
  show-holds l n s h = after_holds l (n s) h

  pub get_holds : (f : State → M A) (s : State) → Holds S R Q (f s s) → Holds S R Q ((◌>>=◌ get f) s)
  unfolding ◌>>=◌ go_on get
  get_holds f s h = after_holds [] (f s s) h

  pub add_variables-holds : (n : ℕ) (m : M A) (s : State) → Holds S R Q (m (record { steps = s.steps; sum = s.sum; variables = s.variables + n; macros = s.macros })) → Holds S R Q ((◌>>◌ (add_variables n) m) s)
  unfolding ◌>>◌ go_on add_variables
  add_variables-holds n m s h = after_holds [] (m _) h

  pub add_macros-holds : (rules : List (List Rule)) (m : M A) (s : State) → Holds S R Q (m (record { steps = s.steps; sum = s.sum; variables = s.variables; macros = s.macros ++ rules })) → Holds S R Q ((◌>>◌ (add_macros rules) m) s)
  unfolding ◌>>◌ go_on add_macros
  add_macros-holds rules m s h = after_holds [] (m _) h

  pub add_step-holds : (n : ℕ) (m : M A) (s : State) → Holds S R Q (m (record { steps = suc s.steps; sum = s.sum + n; variables = s.variables; macros = s.macros })) → Holds S R Q ((◌>>◌ (add_step n) m) s)
  unfolding ◌>>◌ go_on add_step
  add_step-holds n m s h = after_holds [] (m _) h

module _ {A B : Type 0} {S : Type 0} {R : ℕ → State → Events → Type 0} {Q : B → State → Events → Type 0} where
  pub then-holds : (P : A → State → Events → Type 0) (m : M A) (f : A → M B) (s : State) → Holds S R P (m s)
      → ((a : A) (t : State) (l : Events) → P a t l → Holds S (λ g u k. R g u (l ++ k)) (λ b u k. Q b u (l ++ k)) (f a t)) → Holds S R Q ((◌>>=◌ m f) s)
  unfolding ◌>>=◌ go_on
  then-holds P m f s h k = go (m s) h
    where
      go : (o : Out A) → Holds S R P o → Holds S R Q (go_on f o)
      go (done a t l) (is_done p) = after_holds l (f a t) (k a t l p)
      go (refused g t l) (is_refused r) = is_refused r
      go (starved l) (is_starved x) = is_starved x

  pub or_refuse-holds : (g : ℕ) (o : Option A) (f : A → M B) (s : State) → R g s [] → ((a : A) → o ≡ some a → Holds S R Q (f a s)) → Holds S R Q ((◌>>=◌ (or_refuse g o) f) s)
  unfolding ◌>>=◌ go_on or_refuse
  or_refuse-holds g none f s r k = is_refused r
  or_refuse-holds g (some a) f s r k = after_holds [] (f a s) (k a refl)

module _ {A S S' : Type 0} {R R' : ℕ → State → Events → Type 0} {Q Q' : A → State → Events → Type 0} where
  pub weaken : {o : Out A} → Holds S R Q o → (S → S') → ((g : ℕ) (s : State) (l : Events) → R g s l → R' g s l) → ((a : A) (s : State) (l : Events) → Q a s l → Q' a s l) → Holds S' R' Q' o
  weaken (is_done q) x y z = is_done (z _ _ _ q)
  weaken (is_refused r) x y z = is_refused (y _ _ _ r)
  weaken (is_starved e) x y z = is_starved (x e)

module _ {A S S' : Type 0} {R R' : ℕ → State → Events → Type 0} {Q Q' : A → State → Events → Type 0} where
  -- two claims of one outcome
  pub both_hold : {o : Out A} → Holds S R Q o → Holds S' R' Q' o → Holds (S × S') (λ g s l. R g s l × R' g s l) (λ a s l. Q a s l × Q' a s l) o
  both_hold (is_done p) (is_done q) = is_done (p, q)
  both_hold (is_refused p) (is_refused q) = is_refused (p, q)
  both_hold (is_starved p) (is_starved q) = is_starved (p, q)
