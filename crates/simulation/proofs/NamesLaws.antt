-- The names of two runs that differ in a private name, and why sameness and binding agree on them.
use Rattle.std.specs.Prelude.{◌≡◌, Bool, cond, List, ℕ}
use Rattle.std.proofs.Math.Path.{refl, ap, sym}
use Rattle.std.proofs.Common.{ap₂, ◌∙◌, true≢false}
use Rattle.std.proofs.Math.Bool.{true, false}
use Rattle.std.proofs.lemmas.Bool.{false≢true}
use Rattle.std.proofs.Math.Option.{Option}
use Rattle.std.proofs.Math.Dec.{eqb}
use Rattle.words.specs.TestLaws.{iff-eq}
use Rattle.recipe.specs.Name.{Binding, Name, same, is_ellipsis, is_wildcard, give_binding, bind_name}
use Rattle.expansion.specs.Computation.{binds}
use Rattle.simulation.specs.Marks.{Kind, Of}
use Rattle.simulation.specs.Names.Sameness.{Same}
use Rattle.simulation.proofs.Names.SamenessLaws.{same→Same, Same→same}
use Rattle.simulation.specs.Names.Shown.{Renaming, of_copy, Fine}
use Rattle.simulation.proofs.Names.ShownLaws.{not-private-not-copy, private-copy, owned-apart, binds-fine}
use Rattle.simulation.specs.Names.{Coherent, NameRel, Raw, Ready, Tie, Turned, kept, owned, turned, unowned}

-- ---- the relation

module _ (ρ : Renaming) (raw : Raw ρ) where
  pub name-map : {Q P : Kind} → ((k i : ℕ) (b : Bool) (ms : List ℕ) → Q k i b ms → P k i b ms) → (x y : Name) → (NameRel ρ raw) Q x y → (NameRel ρ raw) P x y
  name-map h x y (kept q k) = kept (h _ _ _ _ q) k
  name-map h x y (turned q t) = turned (h _ _ _ _ q) t

  pub dots-rel : {Q : Kind} (x y : Name) → (NameRel ρ raw) Q x y → is_ellipsis x ≡ is_ellipsis y
  unfolding is_ellipsis
  dots-rel x y (kept q k) = ap (λ z. eqb z.number 6) k.eq
  dots-rel x y (turned q t) = ap (λ z. eqb z 6) t.old ∙ ρ.old-6 ∙ sym ρ.new-6 ∙ ap (λ z. eqb z 6) (sym t.new)

  pub wild-rel : {Q : Kind} (x y : Name) → (NameRel ρ raw) Q x y → is_wildcard x ≡ is_wildcard y
  unfolding is_wildcard
  wild-rel x y (kept q k) = ap (λ z. eqb z.number 7) k.eq
  wild-rel x y (turned q t) = ap (λ z. eqb z 7) t.old ∙ ρ.old-7 ∙ sym ρ.new-7 ∙ ap (λ z. eqb z 7) (sym t.new)

  -- ---- sameness

  -- bindings that are one in one run are one in the other
  tie-eq : {b c b' c' : Option Binding} → (Tie ρ raw) b b' → (Tie ρ raw) c c' → (b ≡ c → b' ≡ c') × (b' ≡ c' → b ≡ c)
  tie-eq (owned u) (owned v) = (λ e. e, λ e. e)
  tie-eq (owned u) (unowned p q) = (λ e. absurd (owned-apart ρ u raw.first-free (e ∙ p)), λ e. absurd (owned-apart ρ u raw.second-free (e ∙ q)))
  tie-eq (unowned p q) (owned v) = (λ e. absurd (owned-apart ρ v raw.first-free (sym e ∙ p)), λ e. absurd (owned-apart ρ v raw.second-free (sym e ∙ q)))
  tie-eq (unowned p q) (unowned r s) = (λ e. q ∙ sym s, λ e. p ∙ sym r)

  module _ (Q : Kind) (co : Coherent ρ Q) where
    -- a name that is kept is never the same as one that is turned, in either run
    apart : (i x x' : Name) → Of Q i → Of Q x → ρ.is_private i.item ≡ false → (Turned ρ raw) x x' → i.number ≡ x.number → i.marks ≡ x.marks → ⊥
    apart i x x' qi qx ci t e f =
        let q : Q ρ.old i.item i.produced x.marks = rw (e ∙ t.old, f) at qi in
        let r : Q ρ.old x.item x.produced x.marks = rw t.old at qx in
        false≢true (sym ci ∙ co.old i.item x.item i.produced x.produced x.marks q r ∙ t.private)

    apart' : (i x x' : Name) → Of Q i → Of Q x → ρ.is_private i.item ≡ false → (Turned ρ raw) x x' → i.number ≡ x'.number → i.marks ≡ x'.marks → ⊥
    apart' i x x' qi qx ci t e f =
        let q : Q ρ.new i.item i.produced x.marks = rw (e ∙ t.new, f ∙ sym t.marks) at qi in
        let r : Q ρ.old x.item x.produced x.marks = rw t.old at qx in
        false≢true (sym ci ∙ co.new i.item x.item i.produced x.produced x.marks q r t.private)

    pub same-rel : (i i' x x' : Name) → (NameRel ρ raw) Q i i' → (NameRel ρ raw) Q x x' → same i x ≡ same i' x'
    same-rel i i' x x' (kept qi k) (kept qx l) = ap₂ same k.eq l.eq
    same-rel i i' x x' (kept qi k) (turned qx t) = iff-eq (same i x) (same i' x')
        (λ s. let e = same→Same i x s in absurd (apart i x x' qi qx k.not-private t e.number e.marks))
        (λ s. let e = same→Same i' x' s in absurd (apart' i x x' qi qx k.not-private t (ap (λ z. z.number) k.eq ∙ e.number) (ap (λ z. z.marks) k.eq ∙ e.marks)))
    same-rel i i' x x' (turned qi t) (kept qx k) = iff-eq (same i x) (same i' x')
        (λ s. let e = same→Same i x s in absurd (apart x i i' qx qi k.not-private t (sym e.number) (sym e.marks)))
        (λ s. let e = same→Same i' x' s in absurd (apart' x i i' qx qi k.not-private t (ap (λ z. z.number) k.eq ∙ sym e.number) (ap (λ z. z.marks) k.eq ∙ sym e.marks)))
    same-rel i i' x x' (turned qi t) (turned qx u) = iff-eq (same i x) (same i' x')
        (λ s. let e = same→Same i x s in Same→same i' x' (record { number = t.new ∙ sym u.new; marks = sym t.marks ∙ e.marks ∙ u.marks; binding = (tie-eq t.tie u.tie).0 e.binding }))
        (λ s. let e = same→Same i' x' s in Same→same i x (record { number = t.old ∙ sym u.old; marks = t.marks ∙ e.marks ∙ sym u.marks; binding = (tie-eq t.tie u.tie).1 e.binding }))

    -- ---- a form's new binding

    module _ (rd : Ready ρ Q) where
      put-rel : (b : Binding) (i j x y : Name) → (NameRel ρ raw) Q i j → (NameRel ρ raw) Q x y → Same i x → Fine ρ (binds b i) → (NameRel ρ raw) Q (give_binding b x) (give_binding b y)
      unfolding give_binding of_copy
      put-rel b i j x y (kept qi k) (kept qx l) s f = kept qx (record { eq = ap (give_binding b) l.eq; not-private = l.not-private; free = binds-fine ρ b i f ∙ not-private-not-copy ρ i k.not-private })
      put-rel b i j x y (kept qi k) (turned qx t) s f = absurd (apart i x y qi qx k.not-private t s.number s.marks)
      put-rel b i j x y (turned qi t) (kept qx k) s f = absurd (apart x i j qx qi k.not-private t (sym s.number) (sym s.marks))
      put-rel b i j x y (turned qi t) (turned qx u) s f = turned qx (record {
        private = u.private;
        old = u.old;
        new = u.new;
        item = u.item;
        produced = u.produced;
        marks = u.marks;
        tie = owned (binds-fine ρ b i f ∙ private-copy ρ i (rd _ _ _ _ qi t.private) t.private);
      })

      pub bind_name-rel : (b : Binding) (i j : Name) → (NameRel ρ raw) Q i j → Fine ρ (binds b i) → (x y : Name) → (NameRel ρ raw) Q x y → (NameRel ρ raw) Q (bind_name i b x) (bind_name j b y)
      unfolding bind_name
      bind_name-rel b i j r f x y q = go (same i x) (same j y) refl (same-rel i j x y r q)
        where
          go : (p p' : Bool) → same i x ≡ p → p ≡ p' → (NameRel ρ raw) Q (cond p (give_binding b x) x) (cond p' (give_binding b y) y)
          go true true s t = put-rel b i j x y r q (same→Same i x s) f
          go true false s t = absurd (true≢false t)
          go false true s t = absurd (false≢true t)
          go false false s t = q
