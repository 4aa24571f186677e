-- Computations that agree where what the first shows is fine: one rule for each way to put computations together.
use Rattle.std.specs.Prelude.{◌≡◌, Bool, ℕ, ◌≤◌}
use Rattle.std.proofs.Math.Path.{refl}
use Rattle.std.proofs.Math.Bool.{true, false}
use Rattle.std.proofs.Common.{true≢false, arith}
use Rattle.std.proofs.lemmas.Bool.{false≢true}
use mathlib.Core.List.{[], ◌++◌}
use Rattle.std.proofs.Math.Option.{Option}
use Rattle.words.specs.Each.{Each, each_left, each_right}
use Rattle.expansion.specs.Rules.{Rule}
use Rattle.expansion.specs.Computation.{State, Event, Events, Out, done, refused, starved, M, after, go_on, ◌>>=◌, ◌>>◌, give, refuse, show, test, or_refuse, get}
use Rattle.simulation.specs.Relations.{OptionRel, nones, somes}
use Rattle.simulation.specs.Likeness.{Likeness}
use Rattle.simulation.proofs.LikenessLaws.{AllFine}
use Rattle.simulation.specs.States.{StateRel, RuleRel}
use Rattle.simulation.proofs.StatesLaws.{RuleOption, no_one, this}
use Rattle.simulation.specs.Outcomes.{events_of}

pub events-after : {A : Type 0} (l : Events) (x : Out A) → events_of (after l x) ≡ l ++ events_of x
unfolding events_of after
events-after l (done a s k) = refl
events-after l (refused g s k) = refl
events-after l (starved k) = refl

-- what the first part shows is fine where all is
pub first_fine : (F : Event → Type 0) {A B : Type 0} (f : A → M B) (x : Out A) → Each F (events_of (go_on f x)) → Each F (events_of x)
unfolding events_of go_on
first_fine F f (done a s l) h = each_left l (events_of (f a s)) (rw events-after at h)
first_fine F f (refused g s l) h = h
first_fine F f (starved l) h = h

module _ (L : Likeness) where
  -- both done with related answers, both refused on one ground, or both out of gas
  pub data OutRel (k : ℕ) {A : Type 0} (R : A → A → Type 0) : Out A → Out A → Type 1 where
    dones : {a b : A} {s t : State} {l l' : Events} → R a b → StateRel L k s t → OutRel k R (done a s l) (done b t l')
    refusals : {g : ℕ} {s t : State} {l l' : Events} → StateRel L k s t → OutRel k R (refused g s l) (refused g t l')
    starvations : {l l' : Events} → OutRel k R (starved l) (starved l')

  -- the two computations agree where the first shows nothing that it may not
  abbrev pub Agree : ℕ → {A : Type 0} (R : A → A → Type 0) → Out A → Out A → Type 1
  Agree k R x y = AllFine L (events_of x) → OutRel k R x y

  -- the same from any two states that agree
  abbrev pub Agrees : ℕ → {A : Type 0} (R : A → A → Type 0) → M A → M A → Type 1
  Agrees k R m m' = (s s' : State) → StateRel L k s s' → Agree k R (m s) (m' s')

  pub after-rel : (k : ℕ) {A : Type 0} {R : A → A → Type 0} (l l' : Events) {x y : Out A} → OutRel k R x y → OutRel k R (after l x) (after l' y)
  unfolding after
  after-rel k l l' (dones r s) = dones r s
  after-rel k l l' (refusals s) = refusals s
  after-rel k l l' starvations = starvations

  -- what agrees from a later step on agrees from an earlier
  pub earlier : (k l : ℕ) → k ≤ l → {A : Type 0} {R : A → A → Type 0} {x y : Out A} → OutRel l R x y → OutRel k R x y
  earlier k l h {A} {R} r = go r
    where
      down : {s t : State} → StateRel L l s t → StateRel L k s t
      down q = record { enough = omega (arith, q.enough); steps = q.steps; sum = q.sum; variables = q.variables; macros = q.macros }

      go : {x y : Out A} → OutRel l R x y → OutRel k R x y
      go (dones r q) = dones r (down q)
      go (refusals q) = refusals (down q)
      go starvations = starvations

  module _ (k : ℕ) {A B : Type 0} {R : A → A → Type 0} {P : B → B → Type 0} where
    pub go_on-agree : (f g : A → M B) {x y : Out A} → OutRel k R x y → ((a b : A) (u v : State) → R a b → StateRel L k u v → Agree k P (f a u) (g b v)) → Agree k P (go_on f x) (go_on g y)
    unfolding events_of go_on
    go_on-agree f g (dones {a = a} {b = b} {s = u} {t = v} {l = l} {l' = l'} r q) h fine = after-rel k l l' (h a b u v r q (each_right l (events_of (f a u)) (rw events-after at fine)))
    go_on-agree f g (refusals q) h fine = refusals q
    go_on-agree f g starvations h fine = starvations

    pub bind-agree : (m m' : M A) (f g : A → M B) (s t : State) → Agree k R (m s) (m' t) → ((a b : A) (u v : State) → R a b → StateRel L k u v → Agree k P (f a u) (g b v)) → Agree k P ((◌>>=◌ m f) s) ((◌>>=◌ m' g) t)
    unfolding ◌>>=◌
    bind-agree m m' f g s t h j fine = go_on-agree f g (h (first_fine L.Fine f (m s) fine)) j fine

  module _ (k : ℕ) {B : Type 0} {P : B → B → Type 0} where
    pub give-agree : (a b : B) (s t : State) → P a b → StateRel L k s t → Agree k P (give a s) (give b t)
    unfolding give
    give-agree a b s t p q fine = dones p q

    pub refuse-agree : (g : ℕ) (s t : State) → StateRel L k s t → Agree k P (refuse g s) (refuse g t)
    unfolding refuse
    refuse-agree g s t q fine = refusals q

    -- what follows may use that the test passed
    pub tested_agree : (g : ℕ) (b c : Bool) (f h : M B) (s t : State) → b ≡ c → StateRel L k s t → (b ≡ true → Agree k P (f s) (h t)) → Agree k P ((◌>>◌ (test g b) f) s) ((◌>>◌ (test g c) h) t)
    unfolding ◌>>◌ test go_on events_of
    tested_agree g true true f h s t e q j fine = after-rel k [] [] (j refl (rw events-after at fine))
    tested_agree g true false f h s t e q j fine = absurd (true≢false e)
    tested_agree g false true f h s t e q j fine = absurd (false≢true e)
    tested_agree g false false f h s t e q j fine = refusals q

    pub test-agree : (g : ℕ) (b c : Bool) (f h : M B) (s t : State) → b ≡ c → StateRel L k s t → Agree k P (f s) (h t) → Agree k P ((◌>>◌ (test g b) f) s) ((◌>>◌ (test g c) h) t)
    test-agree g b c f h s t e q j = tested_agree g b c f h s t e q (λ _. j)

    pub show-agree : (l l' : Events) (f h : M B) (s t : State) → (AllFine L l → Agree k P (f s) (h t)) → Agree k P ((◌>>◌ (show l) f) s) ((◌>>◌ (show l') h) t)
    unfolding ◌>>◌ show go_on events_of
    show-agree l l' f h s t g fine =
        let e : AllFine L (l ++ events_of (f s)) = rw events-after at fine in
        after-rel k l l' (g (each_left l (events_of (f s)) e) (each_right l (events_of (f s)) e))

    -- a computation that only goes on to another state
    pub goes-agree : {A A' : Type 0} (m : M A) (m' : M A') (f h : M B) (s t : State) (a : A) (a' : A') (u v : State) → m s ≡ done a u [] → m' t ≡ done a' v [] → Agree k P (f u) (h v) → Agree k P ((◌>>◌ m f) s) ((◌>>◌ m' h) t)
    unfolding ◌>>◌ go_on
    goes-agree m m' f h s t a a' u v e e' j fine = rw (e, e') (after-rel k [] [] (j (rw (e, events-after) at fine)))

    pub get-agree : (f h : State → M B) (s t : State) → Agree k P (f s s) (h t t) → Agree k P ((◌>>=◌ get f) s) ((◌>>=◌ get h) t)
    unfolding ◌>>=◌ get go_on
    get-agree f h s t j fine = after-rel k [] [] (j (rw events-after at fine))

    pub or_refuse-agree : {A : Type 0} {S : A → A → Type 0} (g : ℕ) {a b : Option A} → OptionRel S a b → (f f' : A → M B) (s t : State) → StateRel L k s t → ((x y : A) → S x y → Agree k P (f x s) (f' y t)) → Agree k P ((◌>>=◌ (or_refuse g a) f) s) ((◌>>=◌ (or_refuse g b) f') t)
    unfolding or_refuse ◌>>=◌ go_on
    or_refuse-agree g nones f f' s t q h fine = refusals q
    or_refuse-agree g (somes {a = x} {b = y} r) f f' s t q h fine = after-rel k [] [] (h x y r (rw events-after at fine))

    -- the same of the rule that fits
    pub or_rule-agree : (l g : ℕ) {a b : Option Rule} → RuleOption L l a b → (f f' : Rule → M B) (s t : State) → StateRel L k s t → ((x y : Rule) → RuleRel L l x y → Agree k P (f x s) (f' y t)) → Agree k P ((◌>>=◌ (or_refuse g a) f) s) ((◌>>=◌ (or_refuse g b) f') t)
    unfolding or_refuse ◌>>=◌ go_on
    or_rule-agree l g no_one f f' s t q h fine = refusals q
    or_rule-agree l g (this {r = x} {s = y} r) f f' s t q h fine = after-rel k [] [] (h x y r (rw events-after at fine))
