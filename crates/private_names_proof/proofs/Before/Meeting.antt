-- Two computations, of which the first shows the form, agree: `Meets`, with a rule for each way to put computations together. What goes
-- before the form is the same in both, and what goes after it agrees by the simulation.
use Rattle.std.specs.Prelude.{◌≡◌, Bool, ◌||◌, ℕ, ◌≤◌}
use Rattle.std.proofs.Math.Path.{refl, ap}
use Rattle.std.proofs.Common.{sym, ◌∙◌, subst, true≢false}
use Rattle.std.proofs.Math.Bool.{true, false}
use Rattle.std.proofs.lemmas.Bool.{false≢true}
use mathlib.Core.List.{List, [], ◌∷◌, ◌++◌}
use Rattle.std.proofs.Math.Option.{none}
use Rattle.words.specs.Lists.{any_of}
use Rattle.words.specs.TestLaws.{any_append}
use Rattle.words.specs.Each.{each_left, each_right}
use Rattle.recipe.specs.Name.{Name}
use Rattle.recipe.specs.Tree.{Tree}
use Rattle.recipe.specs.TreeNames.{uses}
use Rattle.core_term.specs.Term.{Term}
use Rattle.expansion.specs.Computation.{State, Events, Out, done, refused, starved, M, after, go_on, ◌>>=◌, ◌>>◌, show, test, get}
use Rattle.private_names.specs.Statement.{is_reached_at}
use Rattle.simulation.specs.Names.Shown.{Renaming, of_copy, Fine}
use Rattle.simulation.proofs.Names.ShownLaws.{AllFine}
use Rattle.simulation.specs.Names.{Raw}
use Rattle.simulation.proofs.Formals.{TermRel}
use Rattle.simulation.proofs.StepsLaws.{privately}
use Rattle.simulation.specs.States.{StateRel}
use Rattle.simulation.specs.Outcomes.{events_of}
use Rattle.simulation.proofs.OutcomesLaws.{events-after, OutRel, dones, Agree, after-rel, first_fine, go_on-agree}
use Rattle.simulation.specs.Form.Holes.{Hole, first}
use Rattle.simulation.specs.Form.Places.{Still, ChosenRules}
use Rattle.simulation.proofs.Form.PlacesLaws.{Foreign}
use Rattle.simulation.specs.Form.Scopes.{Scope}
use Rattle.simulation.proofs.Form.{Joins}
use Rattle.private_names_proof.proofs.Reach.{Unreached, unreached, none-reached}
use Rattle.private_names_proof.proofs.PathsLaws.{Headed}

module _ (ρ : Renaming) (p : ℕ) where
  -- a state that agrees with itself, whatever the template's own names are bound to
  abbrev pub Calm : State → Type 1
  Calm s = (raw : Raw ρ) → StateRel (privately ρ raw) 0 s s

  pub no-raw : Raw ρ
  unfolding of_copy
  no-raw = record { first = none; second = none; first-free = refl; second-free = refl }

  -- they agree where the first computation shows the form, and all that it shows is fine
  abbrev pub Meets : {A : Type 0} (R : A → A → Type 0) → Out A → Out A → Type 1
  Meets R x y = any_of (is_reached_at p) (events_of x) ≡ true → AllFine ρ (events_of x) → Joins ρ R x y

  -- a computation that does not show it
  pub never : {A : Type 0} {R : A → A → Type 0} {x y : Out A} → Unreached p x → Meets R x y
  never u e fine = absurd (false≢true (sym (none-reached p u) ∙ e))

  or_left : (a b : Bool) → (a || b) ≡ true → b ≡ false → a ≡ true
  or_left true b e f = refl
  or_left false b e f = absurd (false≢true (sym f ∙ e))

  or_right : (a b : Bool) → (a || b) ≡ true → a ≡ false → b ≡ true
  or_right true b e f = absurd (true≢false f)
  or_right false b e f = e

  after-joins : {A : Type 0} {R : A → A → Type 0} (l l' : Events) {x y : Out A} → Joins ρ R x y → Joins ρ R (after l x) (after l' y)
  after-joins l l' j = record { raw = j.raw; outcomes = after-rel (privately ρ j.raw) 0 l l' j.outcomes }

  -- what is shown first does not show the form
  after-meets : {A : Type 0} {R : A → A → Type 0} (l l' : Events) (x y : Out A) → any_of (is_reached_at p) l ≡ false → (AllFine ρ l → Meets R x y) → Meets R (after l x) (after l' y)
  after-meets l l' x y n h e fine =
      let f : AllFine ρ (l ++ events_of x) = subst (AllFine ρ) (events-after l x) fine in
      let d = sym (any_append (is_reached_at p) l (events_of x)) ∙ ap (any_of (is_reached_at p)) (sym (events-after l x)) ∙ e in
      after-joins l l' (h (each_left l (events_of x) f) (or_right (any_of (is_reached_at p) l) (any_of (is_reached_at p) (events_of x)) d n) (each_right l (events_of x) f))

  done-rel : {A : Type 0} {R : A → A → Type 0} (raw : Raw ρ) {a b : A} {u v : State} {l k : Events} → OutRel (privately ρ raw) 0 R (done a u l) (done b v k) → R a b × StateRel (privately ρ raw) 0 u v
  done-rel raw (dones r q) = (r, q)

  module _ {A B : Type 0} where
    shown-first : (f : A → M B) (x : Out A) → ((a : A) (u : State) → Unreached p (f a u)) → any_of (is_reached_at p) (events_of (go_on f x)) ≡ true → any_of (is_reached_at p) (events_of x) ≡ true
    unfolding go_on events_of
    shown-first f (done a u l) n e =
        or_left (any_of (is_reached_at p) l) (any_of (is_reached_at p) (events_of (f a u)))
        (sym (any_append (is_reached_at p) l (events_of (f a u))) ∙ ap (any_of (is_reached_at p)) (sym (events-after l (f a u))) ∙ e) (none-reached p (n a u))
    shown-first f (refused i u l) n e = e
    shown-first f (starved l) n e = e

  module _ {A B : Type 0} {P : B → B → Type 0} where
    -- a part before the form, the same in both
    pub part-before : (R : Raw ρ → A → A → Type 0) (m : M A) (f g : A → M B) (s : State) → Unreached p (m s) → ((raw : Raw ρ) → Agree (privately ρ raw) 0 (R raw) (m s) (m s))
        → ((a : A) (u : State) → ((raw : Raw ρ) → R raw a a) → Calm u → Meets P (f a u) (g a u)) → Meets P ((◌>>=◌ m f) s) ((◌>>=◌ m g) s)
    unfolding go_on events_of ◌>>=◌
    part-before R m f g s n h k = go (m s) n h
      where
        go : (o : Out A) → Unreached p o → ((raw : Raw ρ) → Agree (privately ρ raw) 0 (R raw) o o) → Meets P (go_on f o) (go_on g o)
        go (done a u l) (unreached n) h =
            after-meets l l (f a u) (g a u) n λ fine. k a u (λ raw. (done-rel raw (h raw fine)).0) (λ raw. (done-rel raw (h raw fine)).1)
        go (refused i u l) (unreached n) h = never (unreached n)
        go (starved l) (unreached n) h = never (unreached n)

    -- the part with the form
    pub part-with : {R : A → A → Type 0} (m m' : M A) (f g : A → M B) (s s' : State) → Meets R (m s) (m' s') → ((a : A) (u : State) → Unreached p (f a u))
        → ((raw : Raw ρ) (a b : A) (u v : State) → R a b → StateRel (privately ρ raw) 0 u v → Agree (privately ρ raw) 0 P (f a u) (g b v)) → Meets P ((◌>>=◌ m f) s) ((◌>>=◌ m' g) s')
    unfolding ◌>>=◌
    part-with m m' f g s s' h n k e fine =
        let j = h (shown-first f (m s) n e) (first_fine (Fine ρ) f (m s) fine) in
        record { raw = j.raw; outcomes = go_on-agree (privately ρ j.raw) 0 f g j.outcomes (k j.raw) fine }

  module _ {A : Type 0} {P : A → A → Type 0} where
    pub test-meets : (g : ℕ) (b c : Bool) (f h : M A) (s s' : State) → b ≡ c → (b ≡ true → Meets P (f s) (h s')) → Meets P ((◌>>◌ (test g b) f) s) ((◌>>◌ (test g c) h) s')
    unfolding ◌>>◌ test go_on events_of any_of
    test-meets g true true f h s s' e k = after-meets [] [] (f s) (h s') refl (λ _. k refl)
    test-meets g true false f h s s' e k = absurd (true≢false e)
    test-meets g false true f h s s' e k = absurd (false≢true e)
    test-meets g false false f h s s' e k = λ d fine. absurd (false≢true d)

    pub show-meets : (l l' : Events) (f h : M A) (s s' : State) → any_of (is_reached_at p) l ≡ false → (AllFine ρ l → Meets P (f s) (h s')) → Meets P ((◌>>◌ (show l) f) s) ((◌>>◌ (show l') h) s')
    unfolding ◌>>◌ show go_on
    show-meets l l' f h s s' n k = after-meets l l' (f s) (h s') n k

    pub goes-meets : (m m' : M (Unit {0})) (f h : M A) (s s' u v : State) → m s ≡ done tt u [] → m' s' ≡ done tt v [] → Meets P (f u) (h v) → Meets P ((◌>>◌ m f) s) ((◌>>◌ m' h) s')
    unfolding ◌>>◌ go_on any_of
    goes-meets m m' f h s s' u v e e' k = rw (e, e') (after-meets [] [] (f u) (h v) refl (λ _. k))

    pub get_meets : (f h : State → M A) (s s' : State) → Meets P (f s s) (h s' s') → Meets P ((◌>>=◌ get f) s) ((◌>>=◌ get h) s')
    unfolding ◌>>=◌ get go_on any_of
    get_meets f h s s' k = after-meets [] [] (f s s) (h s' s') refl (λ _. k)

  -- ---- expansion that goes ahead: the place of the form's rules form, in a tree that has the form at l, is its entry b's

  abbrev pub place : ℕ → List ℕ → List ℕ
  place b l = l ++ (1 ∷ b ∷ 1 ∷ [])

  abbrev pub Ahead : ℕ → (Tree → M (Term Name)) → Type 1
  Ahead b f = (β : Scope) → Foreign ρ β → (l : List ℕ) (t t' : Tree) → Headed p l t → uses p t ≤ 1 → Hole (Still ρ β) (ChosenRules ρ β) (place b l) t t'
      → (s : State) → Calm s → Meets (TermRel ρ) (f t s) (f t' s)
