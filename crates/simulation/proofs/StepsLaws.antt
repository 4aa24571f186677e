-- Names of two runs that differ in a private name, marked and in a step's result. And so these names are alike, as expansion asks it.
use Rattle.std.specs.Prelude.{◌≡◌, refl, Bool, true, List, ℕ}
use Rattle.std.proofs.Math.Path.{ap}
use Rattle.std.proofs.Common.{sym, subst, inl, inr}
use Rattle.recipe.specs.Name.{Name, toggle, mark_name, produce_name}
use Rattle.simulation.specs.Marks.{Kind, Below, Marked, Produced, Result}
use Rattle.simulation.proofs.MarksLaws.{new-is-not-old}
use Rattle.simulation.specs.Likeness.{Likeness}
use Rattle.simulation.specs.Names.Shown.{Renaming, Fine}
use Rattle.simulation.specs.Names.{Coherent, Ready, Raw, NameRel, kept, turned}
use Rattle.simulation.proofs.NamesLaws.{name-map, dots-rel, wild-rel, same-rel, bind_name-rel}
use Rattle.simulation.proofs.Lookups.{agree-rel, is_syntax_rules-rel, quoted-eq}
use Rattle.simulation.proofs.Formals.{FormalRel, formal-rel}
use Rattle.simulation.specs.Steps.{Literal}

module _ (ρ : Renaming) (raw : Raw ρ) where
  pub mark-name : (Q : Kind) (m : ℕ) (x y : Name) → NameRel ρ raw Q x y → NameRel ρ raw (Marked m Q) (mark_name m x) (mark_name m y)
  unfolding mark_name
  mark-name Q m x y (kept q k) = kept (x.marks, q, refl) (record { eq = ap (mark_name m) k.eq; not-private = k.not-private; free = k.free })
  mark-name Q m x y (turned q t) = turned (x.marks, q, refl) (record { private = t.private; old = t.old; new = t.new; item = t.item; produced = t.produced; marks = ap (toggle m) t.marks; tie = t.tie })

  pub produce-name : (Q : Kind) (x y : Name) → NameRel ρ raw Q x y → NameRel ρ raw (Produced Q) (produce_name x) (produce_name y)
  unfolding produce_name
  produce-name Q x y (kept q k) = kept (refl, (x.produced, q)) (record { eq = ap produce_name k.eq; not-private = k.not-private; free = k.free })
  produce-name Q x y (turned q t) = turned (refl, (x.produced, q)) (record { private = t.private; old = t.old; new = t.new; item = t.item; produced = refl; marks = t.marks; tie = t.tie })

-- ---- what holds of a step's result, Q of the template's names and P of the use's, all of whose marks are older than m

module _ (ρ : Renaming) (m : ℕ) (Q P : Kind) where
  pub result-ready : Ready ρ (Result m Q P)
  result-ready k i b ms q e = q.0

  module _ (bq : Below m Q) (bp : Below m P) where
    pub result-coherent : Coherent ρ Q → Coherent ρ P → Coherent ρ (Result m Q P)
    result-coherent cq cp = record { old = go; new = go' }
      where
        go : (i j : ℕ) (a b : Bool) (ms : List ℕ) → Result m Q P ρ.old i a ms → Result m Q P ρ.old j b ms → ρ.is_private i ≡ ρ.is_private j
        go i j a b ms (x, inl (c, l, q, e)) (y, inl (d, k, r, f)) = let z : l ≡ k = cc in cq.old i j c d l q (subst (Q ρ.old j d) (sym z) r)
        go i j a b ms (x, inl (c, l, q, e)) (y, inr (d, p)) = absurd (new-is-not-old m Q P bq bp ρ.old j d l ms e p)
        go i j a b ms (x, inr (c, p)) (y, inl (d, l, q, e)) = absurd (new-is-not-old m Q P bq bp ρ.old i c l ms e p)
        go i j a b ms (x, inr (c, p)) (y, inr (d, q)) = cp.old i j c d ms p q

        go' : (i j : ℕ) (a b : Bool) (ms : List ℕ) → Result m Q P ρ.new i a ms → Result m Q P ρ.old j b ms → ρ.is_private j ≡ true → ρ.is_private i ≡ true
        go' i j a b ms (x, inl (c, l, q, e)) (y, inl (d, k, r, f)) = let z : l ≡ k = cc in cq.new i j c d l q (subst (Q ρ.old j d) (sym z) r)
        go' i j a b ms (x, inl (c, l, q, e)) (y, inr (d, p)) = absurd (new-is-not-old m Q P bq bp ρ.old j d l ms e p)
        go' i j a b ms (x, inr (c, p)) (y, inl (d, l, q, e)) = absurd (new-is-not-old m Q P bq bp ρ.new i c l ms e p)
        go' i j a b ms (x, inr (c, p)) (y, inr (d, q)) = cp.new i j c d ms p q

-- ---- these names are alike

abbrev pub privately : (ρ : Renaming) → Raw ρ → Likeness
privately ρ raw = record {
  Rel = NameRel ρ raw;
  Literal = Literal ρ raw;
  Number = ◌≡◌ {A = ℕ};
  Formal = FormalRel ρ;
  Coherent = Coherent ρ;
  Ready = Ready ρ;
  Fine = Fine ρ;
  map-rel = λ Q P. name-map ρ raw {Q = Q} {P = P};
  dots-rel = λ Q. dots-rel ρ raw {Q = Q};
  wild-rel = λ Q. wild-rel ρ raw {Q = Q};
  same-rel = same-rel ρ raw;
  head-rel = λ Q. is_syntax_rules-rel ρ raw {Q = Q};
  agree-rel = λ P. agree-rel ρ raw {Q = λ k i b ms. ρ.is_private i ≡ true → b ≡ true} {P = P} (λ k i b ms q. q);
  literal-rel = λ Q rd. name-map ρ raw {Q = Q} {P = λ k i b ms. ρ.is_private i ≡ true → b ≡ true} rd;
  number-rel = λ Q. quoted-eq ρ raw {Q = Q};
  formal-rel = λ Q rd. formal-rel ρ {Q = Q} rd raw;
  mark-rel = mark-name ρ raw;
  produce-rel = produce-name ρ raw;
  bind-rel = bind_name-rel ρ raw;
  marked-ready = λ m Q rd k i b ms x. rd k i b x.0 x.1;
  result-ready = result-ready ρ;
  result-coherent = result-coherent ρ;
}
