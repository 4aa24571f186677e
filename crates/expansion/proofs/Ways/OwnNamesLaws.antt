-- Own names: in one run no number is bound twice, so that a binding has one own name.
use Rattle.std.proofs.Math.Path.{◌≡◌, refl, ap}
use Rattle.std.proofs.Common.{sym, ◌∙◌, inl, inr, arith}
use Rattle.std.specs.Prelude.{◌⊎◌, ℕ, zero, suc, ◌≤◌}
use mathlib.Core.List.Memᴰ
use mathlib.Core.List.{List, [], ◌∷◌, ◌++◌, Memᴰ}
use Rattle.recipe.specs.Name.{Binding, variable, macro, Name}
use Rattle.recipe.specs.Table.{tree_of}
use Rattle.expansion.specs.Computation.{start, looked, quoted, reached, binds, Events}
use Rattle.expansion.specs.Run.{run, ended, unbegun, expand_recipe}
use Rattle.expansion.proofs.RunLaws.{run_holds}
use Rattle.expansion.proofs.OutcomesLaws.{both_hold}
use Rattle.expansion.proofs.Bounds.Gas.{expand_recipe-spends}
use Rattle.expansion.specs.Ways.Bindings.{variable_number, macro_number, bound_by, up_from}
use Rattle.expansion.proofs.WaysLaws.{expand-keeps}
use Rattle.expansion.specs.Ways.OwnNames.{InOrder, bindings_made}

-- ---- a numbering of bindings

-- some bindings have one number each
record Numbering (number : Binding → List ℕ) : Type 0 where
  shape : (b : Binding) → (number b ≡ []) ⊎ ((n : ℕ) × (number b ≡ n ∷ []))

up_from-cons : (k n j : ℕ) (r : List ℕ) → j ∷ r ≡ up_from k n → (m : ℕ) × (j ≡ k) × (r ≡ up_from (suc k) m)
unfolding up_from
up_from-cons k zero j r e = let z : ◌≡◌ {A = ℕ} 0 1 = cc in absurd (omega arith)
up_from-cons k (suc n) j r e = (n, cc, cc)

module _ (number : Binding → List ℕ) (is : Numbering number) where
  numbers : List (Binding × Name) → List ℕ
  numbers [] = []
  numbers (p ∷ ps) = number p.0 ++ numbers ps

  bound_by-numbers : (l : Events) → bound_by number l ≡ numbers (bindings_made l)
  unfolding bound_by numbers bindings_made
  bound_by-numbers [] = refl
  bound_by-numbers (looked x ∷ l) = bound_by-numbers l
  bound_by-numbers (quoted x ∷ l) = bound_by-numbers l
  bound_by-numbers (reached x ∷ l) = bound_by-numbers l
  bound_by-numbers (binds b x ∷ l) = ap (λ (r : List ℕ). number b ++ r) (bound_by-numbers l)

  module _ {b : Binding} {n : ℕ} (h : number b ≡ n ∷ []) where
    -- the first of these pairs has no number or the number k, and the rest goes on from there
    data First (p : Binding × Name) (ps : List (Binding × Name)) (k : ℕ) : Type 0 where
      skipped : (v : ℕ) → (b ≡ p.0 → ⊥) → numbers ps ≡ up_from k v → First p ps k
      taken : (v : ℕ) → (b ≡ p.0 → n ≡ k) → numbers ps ≡ up_from (suc k) v → First p ps k

    first : (p : Binding × Name) (ps : List (Binding × Name)) (k v : ℕ) → numbers (p ∷ ps) ≡ up_from k v → First p ps k
    unfolding numbers
    first p ps k v e = go (is.shape p.0)
      where
        go : (number p.0 ≡ []) ⊎ ((j : ℕ) × (number p.0 ≡ j ∷ [])) → First p ps k
        go (inl q) = skipped v (λ r. let z : ◌≡◌ {A = ℕ} 0 1 = cc in omega arith) (ap (λ (z : List ℕ). z ++ numbers ps) (sym q) ∙ e)
        go (inr (j, q)) = let u = up_from-cons k v j (numbers ps) (ap (λ (z : List ℕ). z ++ numbers ps) (sym q) ∙ e) in taken u.0 (λ r. cc u.1) u.2

    bound-from : (ps : List (Binding × Name)) (k v : ℕ) {x : Name} → numbers ps ≡ up_from k v → Memᴰ (b, x) ps → k ≤ n
    bound-from [] k v e m = absurd (Memᴰ.not-nil m)
    bound-from (p ∷ ps) k v {x} e m = go (first p ps k v e) (Memᴰ.cases_cons m) (λ j w. bound-from ps j w)
      where
        go : First p ps k → ((b, x) ≡ p) ⊎ Memᴰ (b, x) ps → ((j w : ℕ) → numbers ps ≡ up_from j w → Memᴰ (b, x) ps → j ≤ n) → k ≤ n
        go (skipped w other f) (inl q) rest = absurd (other (ap (λ (z : Binding × Name). z.0) q))
        go (skipped w other f) (inr q) rest = rest k w f q
        go (taken w here f) (inl q) rest = omega (arith, here (ap (λ (z : Binding × Name). z.0) q))
        go (taken w here f) (inr q) rest = omega (arith, rest (suc k) w f q)

    own_name : (ps : List (Binding × Name)) (k v : ℕ) {x y : Name} → numbers ps ≡ up_from k v → Memᴰ (b, x) ps → Memᴰ (b, y) ps → x ≡ y
    own_name [] k v e m o = absurd (Memᴰ.not-nil m)
    own_name (p ∷ ps) k v {x} {y} e m o = go (first p ps k v e) (Memᴰ.cases_cons m) (Memᴰ.cases_cons o) (λ j w. own_name ps j w)
      where
        go : First p ps k → ((b, x) ≡ p) ⊎ Memᴰ (b, x) ps → ((b, y) ≡ p) ⊎ Memᴰ (b, y) ps
            → ((j w : ℕ) → numbers ps ≡ up_from j w → Memᴰ (b, x) ps → Memᴰ (b, y) ps → x ≡ y) → x ≡ y
        go (skipped w other f) (inl q) r rest = absurd (other (ap (λ (z : Binding × Name). z.0) q))
        go (skipped w other f) (inr q) (inl r) rest = absurd (other (ap (λ (z : Binding × Name). z.0) r))
        go (skipped w other f) (inr q) (inr r) rest = rest k w f q r
        go (taken w here f) (inl q) (inl r) rest = ap (λ (z : Binding × Name). z.1) (q ∙ sym r)
        go (taken w here f) (inl q) (inr r) rest = absurd (omega (arith, here (ap (λ (z : Binding × Name). z.0) q), bound-from ps (suc k) w f r))
        go (taken w here f) (inr q) (inl r) rest = absurd (omega (arith, here (ap (λ (z : Binding × Name). z.0) r), bound-from ps (suc k) w f q))
        go (taken w here f) (inr q) (inr r) rest = rest (suc k) w f q r

-- ---- of a run

variable-numbering : Numbering variable_number
unfolding variable_number
variable-numbering = record { shape = shape }
  where
    shape : (b : Binding) → (variable_number b ≡ []) ⊎ ((n : ℕ) × (variable_number b ≡ n ∷ []))
    shape (variable n) = inr (n, refl)
    shape (macro n) = inl refl

macro-numbering : Numbering macro_number
unfolding macro_number
macro-numbering = record { shape = shape }
  where
    shape : (b : Binding) → (macro_number b ≡ []) ⊎ ((n : ℕ) × (macro_number b ≡ n ∷ []))
    shape (variable n) = inl refl
    shape (macro n) = inr (n, refl)

in_order-own : (l : Events) → InOrder l → (b : Binding) {x y : Name} → Memᴰ (b, x) (bindings_made l) → Memᴰ (b, y) (bindings_made l) → x ≡ y
unfolding variable_number macro_number
in_order-own l o (variable n) p q = own_name variable_number variable-numbering refl (bindings_made l) 0 o.v (sym (bound_by-numbers variable_number variable-numbering l) ∙ o.variables) p q
in_order-own l o (macro n) p q = own_name macro_number macro-numbering refl (bindings_made l) 0 o.m (sym (bound_by-numbers macro_number macro-numbering l) ∙ o.macros) p q

pub run-in_order : (items : List ℕ) (fuel work core : ℕ) → InOrder (run items fuel work core).events
unfolding unbegun ended expand_recipe start bound_by up_from
run-in_order items fuel work core =
    run_holds (λ r. InOrder r.events) items fuel work core
    (λ b. both_hold (expand_recipe-spends _ fuel (tree_of items)) (expand-keeps _ _ _ fuel _ _ start))
    (λ g _. record { v = 0; m = 0; variables = refl; macros = refl })
    (λ b t s l q. record { v = q.1.v; m = q.1.m; variables = q.1.variables-bound; macros = q.1.macros-bound })
    (λ b g s l q. record { v = q.1.way.v; m = q.1.way.m; variables = q.1.way.variables-bound; macros = q.1.way.macros-bound })
    (λ b l x. absurd x.0)

-- a binding of the run has one own name
pub run-own-name : (items : List ℕ) (fuel work core : ℕ) (b : Binding) {x y : Name} → Memᴰ (b, x) (bindings_made (run items fuel work core).events) → Memᴰ (b, y) (bindings_made (run items fuel work core).events) → x ≡ y
run-own-name items fuel work core b p q = in_order-own (run items fuel work core).events (run-in_order items fuel work core) b p q
