-- Lookups whose events are fine find the same in both runs; so do comparisons of literals, rules heads and quoted data.
use Rattle.std.specs.Prelude.{◌≡◌, true, false, ◌&&◌, ◌||◌, List, ℕ}
use Rattle.std.proofs.Math.Path.{refl, ap}
use Rattle.std.proofs.Common.{ap₂, sym, ◌∙◌, true≢false}
use Rattle.std.proofs.lemmas.Bool.{false≢true}
use Rattle.std.proofs.Math.Option.{Option, none, some}
use Rattle.std.proofs.Math.Dec.{eqb}
use Rattle.recipe.specs.Name.{Binding, Name, binding_key, is_bound}
use Rattle.expansion.specs.Lookup.{Found, lookup, unbound_meaning, or_unbound, is_syntax_rules, agree}
use Rattle.expansion.specs.Computation.{looked, quoted}
use Rattle.simulation.specs.Marks.{Kind, Of}
use Rattle.simulation.proofs.Names.SamenessLaws.{binding_key-apart}
use Rattle.simulation.specs.Names.Shown.{Renaming, of_copy, Fine}
use Rattle.simulation.proofs.Names.ShownLaws.{private-copy, owned-apart, looked-fine, quoted-fine}
use Rattle.simulation.specs.Names.{Ready, Raw, Tie, owned, unowned, Turned, NameRel, kept, turned}

module _ (ρ : Renaming) (raw : Raw ρ) where
  -- a copy that is looked up has a binding of a copy's, the same in both runs
  looked-eq : {Q : Kind} → Ready ρ Q → (x y : Name) → Of Q x → Turned ρ raw x y → Fine ρ (looked x) → (x.binding ≡ y.binding) × (of_copy ρ x.binding ≡ true)
  looked-eq rd x y q t f = go t.tie (looked-fine ρ x f (private-copy ρ x (rd _ _ _ _ q t.private) t.private))
    where
      go : {b c : Option Binding} → Tie ρ raw b c → of_copy ρ b ≡ true → (b ≡ c) × (of_copy ρ b ≡ true)
      go (owned u) w = (refl, w)
      go (unowned p r) w = absurd (owned-apart ρ w raw.first-free p)

  owned-bound : (b : Option Binding) → of_copy ρ b ≡ true → is_bound b ≡ true
  unfolding of_copy is_bound
  owned-bound none e = absurd (false≢true e)
  owned-bound (some b) e = refl

  or_unbound-eq : (b : Option Binding) (f g : Found) → is_bound b ≡ true → or_unbound b f ≡ or_unbound b g
  unfolding or_unbound is_bound
  or_unbound-eq none f g e = absurd (false≢true e)
  or_unbound-eq (some b) f g e = refl

  pub lookup-rel : {Q : Kind} → Ready ρ Q → (operations : List ℕ) (x y : Name) → NameRel ρ raw Q x y → Fine ρ (looked x) → lookup operations x ≡ lookup operations y
  unfolding lookup
  lookup-rel rd ops x y (kept q k) f = ap (lookup ops) k.eq
  lookup-rel rd ops x y (turned q t) f =
      let e = looked-eq rd x y q t f in
      or_unbound-eq x.binding _ _ (owned-bound x.binding e.1) ∙ ap (λ b. or_unbound b (unbound_meaning ops y.number)) e.0

  -- ---- literals

  agree-false : (x y : Name) → (x.binding ≡ y.binding → ⊥) → agree x y ≡ false
  unfolding agree
  agree-false x y h = ap (λ b. b && (is_bound x.binding || eqb x.number y.number)) (binding_key-apart x.binding y.binding h)

  agree-bound : (x y : Name) → is_bound x.binding ≡ true → agree x y ≡ (eqb (binding_key x.binding) (binding_key y.binding) && true)
  unfolding agree
  agree-bound x y u = ap (λ b. eqb (binding_key x.binding) (binding_key y.binding) && (b || eqb x.number y.number)) u

  -- literals agree in both runs or in neither
  pub agree-rel : {Q P : Kind} → Ready ρ Q → Ready ρ P → (x x' y y' : Name) → NameRel ρ raw Q x x' → NameRel ρ raw P y y' → Fine ρ (looked x) → Fine ρ (looked y) → agree x y ≡ agree x' y'
  agree-rel rq rp x x' y y' (kept a k) (kept b l) f g = ap₂ agree k.eq l.eq
  agree-rel rq rp x x' y y' (kept a k) (turned b t) f g =
      let e = looked-eq rp y y' b t g in
      agree-false x y (λ d. owned-apart ρ e.1 k.free (sym d))
      ∙ sym (agree-false x' y' (λ d. owned-apart ρ e.1 k.free (e.0 ∙ sym d ∙ ap (λ z. z.binding) (sym k.eq))))
  agree-rel rq rp x x' y y' (turned a t) (kept b k) f g =
      let e = looked-eq rq x x' a t f in
      agree-false x y (λ d. owned-apart ρ e.1 k.free d)
      ∙ sym (agree-false x' y' (λ d. owned-apart ρ e.1 k.free (e.0 ∙ d ∙ ap (λ z. z.binding) (sym k.eq))))
  agree-rel rq rp x x' y y' (turned a t) (turned b u) f g =
      let e = looked-eq rq x x' a t f in
      let d = looked-eq rp y y' b u g in
      agree-bound x y (owned-bound x.binding e.1) ∙ ap₂ (λ p q. eqb (binding_key p) (binding_key q) && true) e.0 d.0
      ∙ sym (agree-bound x' y' (ap is_bound (sym e.0) ∙ owned-bound x.binding e.1))

  -- ---- the head of a rules form

  owned-no-rules : (x : Name) → of_copy ρ x.binding ≡ true → is_syntax_rules x ≡ false
  unfolding is_syntax_rules binding_key of_copy
  owned-no-rules x e = ap (λ b. b && eqb x.number 5) (binding_key-apart x.binding none (owned-apart ρ e refl))

  pub is_syntax_rules-rel : {Q : Kind} → Ready ρ Q → (x y : Name) → NameRel ρ raw Q x y → Fine ρ (looked x) → is_syntax_rules x ≡ is_syntax_rules y
  is_syntax_rules-rel rd x y (kept q k) f = ap is_syntax_rules k.eq
  is_syntax_rules-rel rd x y (turned q t) f =
      let e = looked-eq rd x y q t f in
      owned-no-rules x e.1 ∙ sym (owned-no-rules y (ap (of_copy ρ) (sym e.0) ∙ e.1))

  -- ---- quoted names

  -- where no copy is quoted the two numbers are one
  pub quoted-eq : {Q : Kind} → Ready ρ Q → (x y : Name) → NameRel ρ raw Q x y → Fine ρ (quoted x) → x.number ≡ y.number
  quoted-eq rd x y (kept q k) f = ap (λ z. z.number) k.eq
  quoted-eq rd x y (turned q t) f = absurd (true≢false (sym (private-copy ρ x (rd _ _ _ _ q t.private) t.private) ∙ quoted-fine ρ x f))
