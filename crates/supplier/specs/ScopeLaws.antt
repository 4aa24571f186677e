-- Laws of the code's scope.
use Rattle.std.specs.Prelude.{◌≡◌, List, [], ◌∷◌, ◌++◌, eqb, length, take, get_or, set, Option, None, Some}
use Rattle.std.proofs.Math.Path.{refl, sym}
use Rattle.std.proofs.Common.{ap, ap₂, ◌∙◌, length-append, get_or-set_same, get_or-set_other}
use Rattle.std.proofs.Math.Option.{none, some}
use Prim.Native.Nat.{ℕ, zero, suc, ◌+◌, ◌-◌, ◌≤◌, ◌<◌}
use native.Mathlib.Omega.{arith}
use Rattle.std.proofs.Math.ListN.{get_or-append}
use Rattle.std.proofs.lemmas.List.{get_or_at, get_or-take, length-take-le}
use borrow.Author.Tests.{eq-eqb, ne_eqb, eqb-true, eqb-false}
use Rattle.words.specs.ListLaws.{either}
use Rattle.comparison.specs.Agrees.{meant, bind}
use Rattle.supplier.specs.declared.scope.Formal.{Formal}
use Rattle.supplier.specs.Scope.{nobody, name_in, variable_in, scope_of, place_after, innermost, Kept}

module _ (n : ℕ) (scope : List Formal) where
  -- ---- the search from the innermost

  innermost-last : (top k : ℕ) → k < top → name_in scope k ≡ n → ((j : ℕ) → k < j → j < top → name_in scope j ≡ n → ⊥) → innermost n scope top ≡ suc k
  unfolding innermost
  innermost-last zero k l e f = absurd (omega arith)
  innermost-last (suc m) k l e f =
      either (eqb m k)
      (λ q. let i : m ≡ k = eqb-true m k q in rw (eq-eqb n (name_in scope m) (sym (ap (name_in scope) i ∙ e)), i) refl)
      (λ q. let i : m ≡ k → ⊥ = eqb-false m k q in
      let a : name_in scope m ≡ n → ⊥ = f m (omega (arith, i)) (omega arith) in
      rw (ne_eqb n (name_in scope m) (λ z. a (sym z))) (innermost-last m k (omega (arith, i)) e (λ j x y. f j x (omega arith))))

  innermost-nowhere : (top : ℕ) → ((j : ℕ) → j < top → name_in scope j ≡ n → ⊥) → innermost n scope top ≡ 0
  unfolding innermost
  innermost-nowhere zero f = refl
  innermost-nowhere (suc m) f = rw (ne_eqb n (name_in scope m) (λ z. f m (omega arith) (sym z))) (innermost-nowhere m (λ j l. f j (omega arith)))

  -- that of a search backwards through the first `top`
  module _ (top : ℕ) (h : top ≤ length scope) where
    abbrev within : List Formal
    within = take top scope

    abbrev Named : ℕ → Type 0
    Named k = (get_or within k nobody).name ≡ n

    same-name : (k : ℕ) → k < top → name_in scope k ≡ n → Named k
    same-name k l e = ap (λ f. f.name) (get_or-take top scope k nobody l) ∙ e

    pub place-found : (r : Option ℕ) (k : ℕ) → r ≡ Some k → k < length within → Named k → ((j : ℕ) → k + 1 ≤ j → j < length within → Named j → ⊥) → place_after r ≡ innermost n scope top
    unfolding place_after
    place-found r k e l named after =
        let s : length within ≡ top = length-take-le top scope h in
        let m : k < top = omega (arith, l, s) in
        ap place_after e
        ∙ sym (innermost-last top k m (sym (ap (λ f. f.name) (get_or-take top scope k nobody m)) ∙ named) (λ j x y z. after j (omega (arith, x)) (omega (arith, y, s)) (same-name j y z)))

    pub place-nowhere : (r : Option ℕ) → r ≡ None → ((j : ℕ) → j < length within → Named j → ⊥) → place_after r ≡ innermost n scope top
    unfolding place_after
    place-nowhere r e none' =
        let s : length within ≡ top = length-take-le top scope h in
        ap place_after e ∙ sym (innermost-nowhere top (λ j y z. none' j (omega (arith, y, s)) (same-name j y z)))

  -- ---- what it finds

  pub innermost-most : (k : ℕ) → innermost n scope k ≤ k
  unfolding innermost
  innermost-most zero = omega arith
  innermost-most (suc k) = either (eqb n (name_in scope k)) (λ h. rw h (omega arith)) (λ h. rw h (omega (arith, innermost-most k)))

  -- ---- what it means

  pub meant-none : (top : ℕ) → innermost n scope top ≡ 0 → meant n (scope_of scope top) ≡ none
  unfolding innermost meant scope_of
  meant-none zero e = refl
  meant-none (suc k) e =
      either (eqb n (name_in scope k)) (λ h. let z : suc k ≡ 0 = rw h at e in absurd (omega (arith, z))) (λ h. rw h (meant-none k (rw h at e)))

  pub meant-some : (top k : ℕ) → innermost n scope top ≡ k → (k ≡ 0 → ⊥) → meant n (scope_of scope top) ≡ some (variable_in scope (k - 1))
  unfolding innermost meant scope_of
  meant-some zero k e f = absurd (f (sym e))
  meant-some (suc j) k e f =
      either (eqb n (name_in scope j))
      (λ h. let z : suc j ≡ k = rw h at e in let s : k - 1 ≡ j = omega (arith, z) in rw (h, s))
      (λ h. rw h (meant-some j k (rw h at e) f))

-- ---- kept scopes

pub kept-scope : (top : ℕ) (before after : List Formal) → Kept top before after → scope_of after top ≡ scope_of before top
unfolding scope_of
kept-scope zero before after k = refl
kept-scope (suc top) before after k = ap₂ ◌∷◌ (ap (λ e. (e.name, e.variable)) (k top (omega arith))) (kept-scope top before after (λ j h. k j (omega arith)))

-- ---- one lambda's formals behind the first `top`

-- what the search finds past `top` stands there
module _ (n : ℕ) (scope : List Formal) (top : ℕ) where
  pub found-past : (k : ℕ) → top < innermost n scope k → (j : ℕ) × ((top ≤ j) × (j < k) × (name_in scope j ≡ n))
  unfolding innermost
  found-past zero h = absurd (omega arith)
  found-past (suc k) h =
      either (eqb n (name_in scope k))
      (λ e. let l : top < suc k = rw e at h in (k, (omega arith, omega arith, sym (eqb-true n (name_in scope k) e))))
      (λ e. let p = found-past k (rw e at h) in (p.0, (p.1.0, omega (arith, p.1.1), p.1.2)))

  pub none-past : (k : ℕ) → innermost n scope k ≤ top → (j : ℕ) → top ≤ j → j < k → name_in scope j ≡ n → ⊥
  unfolding innermost
  none-past zero h j l m e = omega arith
  none-past (suc k) h j l m e =
      either (eqb n (name_in scope k))
      (λ q. let z : suc k ≤ top = rw q at h in omega (arith, z))
      (λ q. either (eqb j k)
      (λ r. eqb-false n (name_in scope k) q (sym (ap (name_in scope) (sym (eqb-true j k r)) ∙ e)))
      (λ r. let u : j ≡ k → ⊥ = eqb-false j k r in none-past k (rw q at h) j l (omega (arith, u)) e))

abbrev pub formal : ℕ → ℕ → Formal
formal n v = record { name = n; variable = v }

-- the scope holds these formals behind its first `top`, for variables from v on
abbrev pub Own : List Formal → ℕ → ℕ → List ℕ → Type 0
Own scope top v ns = (k : ℕ) → k < length ns → get_or scope (top + k) nobody ≡ formal (get_or ns k 0) (v + k)

pub own_name : (scope : List Formal) (top v : ℕ) (ns : List ℕ) → Own scope top v ns → (k : ℕ) → k < length ns → name_in scope (top + k) ≡ get_or ns k 0
own_name scope top v ns o k l = ap (λ e. e.name) (o k l)

own-variable : (scope : List Formal) (top v : ℕ) (ns : List ℕ) → Own scope top v ns → (k : ℕ) → k < length ns → variable_in scope (top + k) ≡ v + k
own-variable scope top v ns o k l = ap (λ e. e.variable) (o k l)

pub own-scope : (ns : List ℕ) (top v : ℕ) (scope : List Formal) → Own scope top v ns → scope_of scope (top + length ns) ≡ bind ns v (scope_of scope top)
unfolding scope_of bind
own-scope [] top v scope o = let e : top + 0 ≡ top = omega arith in rw e
own-scope (n ∷ ns) top v scope o =
    let z : top + 0 ≡ top = omega arith in
    let f : name_in scope top ≡ n = ap (name_in scope) (sym z) ∙ own_name scope top v (n ∷ ns) o 0 (omega arith) in
    let y : v + 0 ≡ v = omega arith in
    let g : variable_in scope top ≡ v = ap (variable_in scope) (sym z) ∙ own-variable scope top v (n ∷ ns) o 0 (omega arith) ∙ y in
    let s : top + suc (length ns) ≡ suc top + length ns = omega arith in
    let o' : Own scope (suc top) (suc v) ns = λ k h.
    let m : suc top + k ≡ top + suc k = omega arith in
    let w : suc v + k ≡ v + suc k = omega arith in
    ap (λ x. get_or scope x nobody) m ∙ o (suc k) (omega arith) ∙ ap (formal (get_or ns k 0)) (sym w) in
    ap (scope_of scope) s ∙ own-scope ns (suc top) (suc v) scope o' ∙ ap₂ (λ x w. bind ns (suc v) ((x, w) ∷ scope_of scope top)) f g

-- one formal more
pub own-more : (ns : List ℕ) (n top v k : ℕ) (scope : List Formal) → k ≡ length ns → top + k < length scope → Own scope top v ns
    → Own (set scope (top + k) (formal n (v + k))) top v (ns ++ (n ∷ []))
own-more ns n top v k scope e l o j h =
    let w = formal n (v + k) in
    either (eqb j k)
    (λ q. let i : j ≡ k = eqb-true j k q in
    let at : get_or (ns ++ (n ∷ [])) j 0 ≡ n = get_or_at ns n [] 0 j (sym (i ∙ e)) in
    ap (λ x. get_or (set scope (top + k) w) (top + x) nobody) i ∙ get_or-set_same scope (top + k) w nobody l ∙ ap₂ (λ x y. formal y (v + x)) (sym i) (sym at))
    (λ q. let i : j ≡ k → ⊥ = eqb-false j k q in
    let b : j < length ns = omega (arith, i, e, length-append ns (n ∷ [])) in
    let at : get_or (ns ++ (n ∷ [])) j 0 ≡ get_or ns j 0 = get_or-append ns (n ∷ []) 0 j b in
    get_or-set_other scope (top + k) (top + j) w nobody (λ z. i (omega (arith, z))) ∙ o j b ∙ ap (λ y. formal y (v + j)) (sym at))

pub kept_set : (top k : ℕ) (n : Formal) (before scope : List Formal) → Kept top before scope → Kept top before (set scope (top + k) n)
kept_set top k n before scope h j l = get_or-set_other scope (top + k) j n nobody (λ z. omega (arith, z)) ∙ h j l
