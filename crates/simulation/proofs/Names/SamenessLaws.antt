-- Sameness as equations: what the tests `same`, `equal` and `binding_key` decide.
use Rattle.std.specs.Prelude.{◌≡◌, refl, true, false, ◌&&◌, eqb}
use Rattle.std.proofs.Common.{ap, subst, arith, eqb-true, eq-eqb, ne_eqb}
use Rattle.std.proofs.Math.Option.{Option, none, some}
use Rattle.words.specs.Lists.{equal}
use Rattle.words.specs.TestLaws.{and_parts, and_both}
use Rattle.words.specs.ListLaws.{equal-true, equal-refl}
use Rattle.recipe.specs.Name.{Binding, variable, macro, Name, binding_key, same}
use Rattle.simulation.specs.Names.Sameness.{Same}

-- ---- bindings

-- bindings of one key are one
pub binding_key-injective : (b c : Option Binding) → binding_key b ≡ binding_key c → b ≡ c
unfolding binding_key
binding_key-injective none none e = refl
binding_key-injective none (some (variable n)) e = absurd (omega arith)
binding_key-injective none (some (macro n)) e = absurd (omega arith)
binding_key-injective (some (variable n)) none e = absurd (omega arith)
binding_key-injective (some (macro n)) none e = absurd (omega arith)
binding_key-injective (some (variable n)) (some (variable m)) e = ap (λ k. some (variable k)) (omega arith)
binding_key-injective (some (variable n)) (some (macro m)) e = absurd (omega arith)
binding_key-injective (some (macro n)) (some (variable m)) e = absurd (omega arith)
binding_key-injective (some (macro n)) (some (macro m)) e = ap (λ k. some (macro k)) (omega arith)

-- different bindings are told apart
pub binding_key-apart : (b c : Option Binding) → (b ≡ c → ⊥) → eqb (binding_key b) (binding_key c) ≡ false
binding_key-apart b c h = ne_eqb (binding_key b) (binding_key c) (λ e. h (binding_key-injective b c e))

-- ---- names

pub same→Same : (x y : Name) → same x y ≡ true → Same x y
unfolding same
same→Same x y e =
    let p = and_parts (eqb x.number y.number) (equal x.marks y.marks && eqb (binding_key x.binding) (binding_key y.binding)) e in
    let q = and_parts (equal x.marks y.marks) (eqb (binding_key x.binding) (binding_key y.binding)) p.1 in
    record { number = eqb-true _ _ p.0; marks = equal-true _ _ q.0; binding = binding_key-injective x.binding y.binding (eqb-true _ _ q.1) }

pub Same→same : (x y : Name) → Same x y → same x y ≡ true
unfolding same
Same→same x y s =
    and_both (eqb x.number y.number) _ (eq-eqb _ _ s.number)
    (and_both (equal x.marks y.marks) _ (subst (λ ms. equal x.marks ms ≡ true) s.marks (equal-refl x.marks))
    (eq-eqb _ _ (ap binding_key s.binding)))
