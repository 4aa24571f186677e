-- After yes, each reference has the same binder in both terms.
use Rattle.std.specs.Prelude.{◌≡◌, refl, true, ◌&&◌, ℕ, suc, ◌+◌, ◌<◌, eqb, length}
use Rattle.std.proofs.Common.{sym, ap, ap₂, subst, ◌∙◌, arith, eqb-true, eq-eqb, ne_eqb}
use mathlib.Core.List.{List, [], ◌∷◌, ◌++◌, map}
use Rattle.std.proofs.Math.Option.{none, some, some-injective, none-ne-some, some-ne-none}
use Rattle.words.specs.ListLaws.{either}
use Rattle.words.specs.Options.{map_some}
use Rattle.words.specs.TestLaws.{and_left, and_right}
use Rattle.core_term.specs.Node.{if_n, lambda_n, application_n}
use Rattle.core_term.specs.Term.{lambda_c, count, variables, Plain, Plains}
use Rattle.core_term.specs.Every.{every, every_term}
use Rattle.core_term.specs.Check as K
use Rattle.core_term.specs.Check.{outside, asked, first_number, numbered}
use Rattle.comparison.specs.Expression.{Expression, Expressions}
use Rattle.comparison.specs.Closed.{inside}
use Rattle.comparison.specs.Agrees.{Scope, meant, bind, agrees}
use Rattle.comparison.specs.Same.{Same, SameAll, variable', operation', datum', if', lambda', application', none', more'}
use Rattle.comparison.proofs.SameLaws.{agrees-says}
use Rattle.comparison.specs.Binders.{place, numbers, binders, binders_all, our_binders, our_binders_all}
use Rattle.comparison.specs.BindersLaws.{names_in}

-- ---- scopes

abbrev variables_in : Scope → List ℕ
variables_in s = map (λ b. b.1) s

-- variables are numbered from the outside in, so that no two in scope are the same
data Below : ℕ → Scope → Type 0 where
  none_below : {b : ℕ} → Below b []
  more_below : {b n v : ℕ} {s : Scope} → v < b → Below v s → Below b ((n, v) ∷ s)

below_more : (b k : ℕ) {s : Scope} → Below b s → Below (b + k) s
below_more b k none_below = none_below
below_more b k (more_below {v = v} l p) = let m : v < b + k = omega arith in more_below m p

below-bind : (ns : List ℕ) (b : ℕ) (s : Scope) → Below b s → Below (b + length ns) (bind ns b s)
unfolding bind
below-bind [] b s p = below_more b 0 p
below-bind (n ∷ ns) b s p =
    let e : suc b + length ns ≡ b + suc (length ns) = omega arith in
    let l : b < suc b = omega arith in
    subst (λ k. Below k (bind ns (suc b) ((n, b) ∷ s))) e (below-bind ns (suc b) ((n, b) ∷ s) (more_below l p))

pub bind-names : (ns : List ℕ) (v : ℕ) (s : Scope) → names_in (bind ns v s) ≡ inside ns (names_in s)
unfolding bind inside
bind-names [] v s = refl
bind-names (n ∷ ns) v s = bind-names ns (suc v) ((n, v) ∷ s)

bind-variables : (ns : List ℕ) (v : ℕ) (s : Scope) → variables_in (bind ns v s) ≡ inside (numbers v (length ns)) (variables_in s)
unfolding bind inside numbers
bind-variables [] v s = refl
bind-variables (n ∷ ns) v s = bind-variables ns (suc v) ((n, v) ∷ s)

-- ---- one reference

-- what a name means is in scope
meant-below : (n v b : ℕ) (s : Scope) → Below b s → meant n s ≡ some v → v < b
unfolding meant
meant-below n v b [] none_below e = absurd (none-ne-some _ e)
meant-below n v b ((x, w) ∷ s) (more_below l p) e =
    either (eqb n x)
    (λ h. omega (arith, l, some-injective _ _ (rw h at e)))
    (λ h. omega (arith, l, meant-below n v w s p (rw h at e)))

meant-place : (n v b : ℕ) (s : Scope) → Below b s → meant n s ≡ some v → place n (names_in s) ≡ place v (variables_in s)
unfolding meant place
meant-place n v b [] none_below e = absurd (none-ne-some _ e)
meant-place n v b ((x, w) ∷ s) (more_below l p) e =
    either (eqb n x)
    (λ h. rw (h, eq-eqb v w (sym (some-injective _ _ (rw h at e)))))
    (λ h.
    let f : meant n s ≡ some v = rw h at e in
    let k : v < w = meant-below n v w s p f in
    rw (h, ne_eqb v w (λ q. omega arith)) (ap (map_some suc) (meant-place n v w s p f)))

none-place : (n : ℕ) (s : Scope) → meant n s ≡ none → place n (names_in s) ≡ none
unfolding meant place map_some
none-place n [] e = refl
none-place n ((x, w) ∷ s) e =
    either (eqb n x)
    (λ h. absurd (some-ne-none _ (rw h at e)))
    (λ h. rw (h, none-place n s (rw h at e)))

-- ---- all references

module _ (theirs ours : ℕ → List ℕ) (operations : List (List ℕ)) where
  abbrev pub Numbers : K.Scope → ℕ → Plain → Type 0
  Numbers e b t = every (asked first_number) e b t ≡ true

  -- a lambda's body, whose first number is the count of variables before it
  pub lambda-part : (e : K.Scope) (b v : ℕ) (fs : List ℕ) (a : Plain) → Numbers e b (lambda_c v fs a)
      → (v ≡ b) × Numbers (K.inside e b (lambda_n v fs)) (b + length fs) a
  unfolding every asked first_number
  lambda-part e b v fs a h = (eqb-true v b (and_left (eqb v b) _ h), and_right (eqb v b) _ h)

  mutual
    unfolding binders our_binders every asked first_number

    same-binders : {s : Scope} {x : Expression} {t : Plain} (e : K.Scope) (b : ℕ) → Same theirs ours operations s x t → Below b s → Numbers e b t
        → binders (names_in s) x ≡ our_binders (variables_in s) t
    same-binders {s} e b (variable' {n = n} {v = v} m) p h = ap (λ o. o ∷ []) (meant-place n v b s p m)
    same-binders {s} e b (operation' {n = n} m q) p h = ap (λ o. o ∷ []) (none-place n s m)
    same-binders e b (datum' q) p h = refl
    same-binders e b (if' {a = a} {b = c} {c = d} x y z) p h =
        let i = K.inside e b if_n in
        let k = and_right (every (asked first_number) i b a) (every (asked first_number) i (b + variables a) c && every (asked first_number) i (b + variables a + variables c) d) h in
        ap₂ ◌++◌ (same-binders i b x p (and_left _ _ h))
        (ap₂ ◌++◌ (same-binders i (b + variables a) y (below_more b (variables a) p) (and_left _ _ k))
        (same-binders i (b + variables a + variables c) z (below_more (b + variables a) (variables c) (below_more b (variables a) p)) (and_right (every (asked first_number) i (b + variables a) c) _ k)))
    same-binders {s} e b (lambda' {ns = ns} {x = x} {v = v} {fs = fs} {a = a} l q) p h =
        let k = lambda-part e b v fs a h in
        let j : Below (b + length fs) (bind ns v s) = subst (λ m. Below (b + m) (bind ns v s)) l (subst (λ m. Below (b + length ns) (bind ns m s)) (sym k.0) (below-bind ns b s p)) in
        ap (λ r. binders r x) (sym (bind-names ns v s)) ∙ same-binders (K.inside e b (lambda_n v fs)) (b + length fs) q j k.1
        ∙ ap (λ r. our_binders r a) (bind-variables ns v s ∙ ap (λ m. inside (numbers v m) (variables_in s)) l)
    same-binders e b (application' {g = g} {ts = ts} q qs) p h =
        let i = K.inside e b (application_n (count ts)) in
        ap₂ ◌++◌ (same-binders i b q p (and_left _ _ h))
        (all-binders i (b + variables g) qs (below_more b (variables g) p) (and_right (every (asked first_number) i b g) _ h))

    all-binders : {s : Scope} {xs : Expressions} {ts : Plains} (e : K.Scope) (b : ℕ) → SameAll theirs ours operations s xs ts → Below b s
        → every_term (asked first_number) e b ts ≡ true → binders_all (names_in s) xs ≡ our_binders_all (variables_in s) ts
    all-binders e b none' p h = refl
    all-binders e b (more' {t = t} q qs) p h =
        ap₂ ◌++◌ (same-binders e b q p (and_left _ _ h))
        (all-binders e (b + variables t) qs (below_more b (variables t) p) (and_right (every (asked first_number) e b t) _ h))

  -- our term being numbered as ground 19 asks
  pub yes-binders : (x : Expression) (t : Plain) → numbered t ≡ true → agrees theirs ours operations [] x t ≡ true → binders [] x ≡ our_binders [] t
  unfolding numbered
  yes-binders x t h a = same-binders outside 0 (agrees-says theirs ours operations [] x t a) none_below h
