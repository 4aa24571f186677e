-- A binding's own name is one name (expansion's `run-own-name`), so that a binding is a copy's just where the name at hand is a copy.
-- And so what the statement asks of the first run's events is what the simulation asks of them (`all-fine`).
use Rattle.std.specs.Prelude.{◌≡◌, ◌⊎◌, Bool, false, not, ◌||◌, ℕ, eqb}
use Rattle.std.proofs.Math.Path.{refl, subst}
use Rattle.std.proofs.Common.{ap, ◌∙◌, inl, inr}
use Rattle.std.proofs.Math.Bool.{true}
use Rattle.std.proofs.lemmas.Bool.{false≢true}
use mathlib.Core.List.{List, [], ◌∷◌, Memᴰ}
use Rattle.std.proofs.Math.Option.{Option, none, some}
use borrow.Author.Tests.{eqb-true, eq-eqb, not-true}
use Rattle.words.specs.Lists.{all_of, any_of}
use Rattle.words.specs.TestLaws.{and_parts, and_both, or_left, or_right, or_cases, iff-eq, all-parts}
use Rattle.words.specs.Each.{Each, none_of, also}
use Rattle.recipe.specs.Name.{Binding, Name, binding_key}
use Rattle.expansion.specs.Computation.{Event, looked, quoted, reached, binds, Events}
use Rattle.expansion.specs.Run.{run}
use Rattle.expansion.specs.Ways.OwnNames.{bindings_made}
use Rattle.expansion.proofs.Ways.OwnNamesLaws.{run-own-name}
use Rattle.simulation.specs.Names.Shown.{Renaming, of_copy, Fine}
use Rattle.simulation.proofs.Names.ShownLaws.{AllFine}
use Rattle.simulation.proofs.Names.SamenessLaws.{binding_key-injective}
use Rattle.private_names.specs.Statement.{is_copy, binds_copy, is_owned_by_copy, quotes_no_copy, finds_own}

some-injective : {b c : Binding} → some b ≡ some c → b ≡ c
some-injective e = cc

module _ (C : ℕ → Bool) where
  -- among these events, the binding's own name is a copy just where this event's name is
  pub data OwnName (whole : Events) : Event → Type 0 where
    of-look : {x : Name} → OwnName whole (looked x)
    of-quote : {x : Name} → OwnName whole (quoted x)
    of-form : {x : Name} → OwnName whole (reached x)
    of-binding : {b : Binding} {x : Name} → is_owned_by_copy C whole (some b) ≡ is_copy C x → OwnName whole (binds b x)

  -- a binding of a copy's was made, its own name a copy
  copy-made : (b : Binding) (l : Events) → any_of (binds_copy C b) l ≡ true → (y : Name) × Memᴰ (b, y) (bindings_made l) × (is_copy C y ≡ true)
  unfolding any_of binds_copy bindings_made
  copy-made b [] e = absurd (false≢true e)
  copy-made b (looked x ∷ l) e = copy-made b l e
  copy-made b (quoted x ∷ l) e = copy-made b l e
  copy-made b (reached x ∷ l) e = copy-made b l e
  copy-made b (binds c x ∷ l) e = go (or_cases _ (any_of (binds_copy C b) l) e) (copy-made b l)
    where
      go : (binds_copy C b (binds c x) ≡ true) ⊎ (any_of (binds_copy C b) l ≡ true) → (any_of (binds_copy C b) l ≡ true → (y : Name) × Memᴰ (b, y) (bindings_made l) × (is_copy C y ≡ true))
          → (y : Name) × Memᴰ (b, y) (bindings_made (binds c x ∷ l)) × (is_copy C y ≡ true)
      go (inl p) later =
          let q = and_parts (eqb (binding_key (some b)) (binding_key (some c))) (is_copy C x) p in
          let same : b ≡ c = some-injective (binding_key-injective (some b) (some c) (eqb-true _ _ q.0)) in
          (x, Memᴰ.head (ap (λ z. (z, x)) same), q.1)
      go (inr p) later = let r = later p in (r.0, Memᴰ.tail r.1, r.2)

  made-copy : (b : Binding) (y : Name) (l : Events) → Memᴰ (b, y) (bindings_made l) → is_copy C y ≡ true → any_of (binds_copy C b) l ≡ true
  unfolding any_of binds_copy bindings_made
  made-copy b y [] m e = elim m [ ]
  made-copy b y (looked x ∷ l) m e = made-copy b y l m e
  made-copy b y (quoted x ∷ l) m e = made-copy b y l m e
  made-copy b y (reached x ∷ l) m e = made-copy b y l m e
  made-copy b y (binds c x ∷ l) (Memᴰ.head p) e =
      or_left _ (any_of (binds_copy C b) l)
      (and_both (eqb (binding_key (some b)) (binding_key (some c))) (is_copy C x) (eq-eqb _ _ (ap (λ (z : Binding × Name). binding_key (some z.0)) p)) (subst (λ (z : Binding × Name). is_copy C z.1 ≡ true) p e))
  made-copy b y (binds c x ∷ l) (Memᴰ.tail m) e = or_right (binds_copy C b (binds c x)) _ (made-copy b y l m e)

  module _ (whole : Events) (one : (b : Binding) (x y : Name) → Memᴰ (b, x) (bindings_made whole) → Memᴰ (b, y) (bindings_made whole) → x ≡ y) where
    own-copy : (b : Binding) (x : Name) → Memᴰ (b, x) (bindings_made whole) → is_owned_by_copy C whole (some b) ≡ is_copy C x
    unfolding is_owned_by_copy
    own-copy b x m = iff-eq _ (is_copy C x) (λ e. let r = copy-made b whole e in subst (λ y. is_copy C y ≡ true) (one b r.0 x r.1 m) r.2) (made-copy b x whole m)

    own-names : (l : Events) → ((p : Binding × Name) → Memᴰ p (bindings_made l) → Memᴰ p (bindings_made whole)) → Each (OwnName whole) l
    unfolding bindings_made
    own-names [] k = none_of
    own-names (looked x ∷ l) k = also of-look (own-names l k)
    own-names (quoted x ∷ l) k = also of-quote (own-names l k)
    own-names (reached x ∷ l) k = also of-form (own-names l k)
    own-names (binds b x ∷ l) k = also (of-binding (own-copy b x (k (b, x) (Memᴰ.head refl)))) (own-names l (λ p m. k p (Memᴰ.tail m)))

  -- so of all that a run shows
  pub run-own : (ws : List ℕ) (fuel work core : ℕ) → Each (OwnName (run ws fuel work core).events) (run ws fuel work core).events
  run-own ws fuel work core = own-names (run ws fuel work core).events (λ b x y p q. run-own-name ws fuel work core b p q) (run ws fuel work core).events (λ p m. m)

-- ---- the statement's hypotheses, as the simulation takes them

implied : (a b : Bool) → (not a || b) ≡ true → a ≡ true → b ≡ true
implied true b e f = e
implied false b e f = absurd (false≢true f)

module _ (ρ : Renaming) (shown : Events) (owned : (b : Binding) → ρ.is_owned b ≡ is_owned_by_copy ρ.is_private shown (some b)) where
  abbrev C : ℕ → Bool
  C = ρ.is_private

  owned-eq : (b : Option Binding) → of_copy ρ b ≡ is_owned_by_copy C shown b
  unfolding of_copy is_owned_by_copy
  owned-eq none = refl
  owned-eq (some b) = owned b

  event-fine : {e : Event} → quotes_no_copy C e ≡ true → finds_own C shown e ≡ true → OwnName C shown e → Fine ρ e
  unfolding quotes_no_copy finds_own Fine
  event-fine q h (of-look {x = x}) = λ c. owned-eq x.binding ∙ implied (is_copy C x) (is_owned_by_copy C shown x.binding) h c
  event-fine q h (of-quote {x = x}) = not-true (is_copy C x) q
  event-fine q h of-form = tt
  event-fine q h (of-binding {b = b} {x = x} e) = owned-eq (some b) ∙ e

  pub all-fine : {l : Events} → all_of (quotes_no_copy C) l ≡ true → all_of (finds_own C shown) l ≡ true → Each (OwnName C shown) l → AllFine ρ l
  all-fine q h none_of = none_of
  all-fine q h (also {x = e} {xs = l} o a) =
      let r = all-parts (quotes_no_copy C) e l q in
      let p = all-parts (finds_own C shown) e l h in
      also (event-fine r.0 p.0 o) (all-fine r.1 p.1 a)
