-- Every rendering of our term is our term.
use Rattle.std.specs.Prelude.{◌≡◌, true, List, [], ◌∷◌, map, length, get_or}
use Rattle.std.proofs.Math.Path.{refl}
use Rattle.std.proofs.Common.{sym, ap, subst, ◌∙◌, eq-eqb, ne_eqb}
use Rattle.std.proofs.Math.Option.{none, some}
use Prim.Native.Nat.{ℕ, zero, suc}
use Rattle.std.proofs.lemmas.List.{length-map}
use Rattle.words.specs.ListLaws.{equal-refl}
use Rattle.words.specs.Each.{Each, none_of, also}
use Rattle.words.specs.Lists.{equal}
use Rattle.words.specs.TestLaws.{and_both}
use Rattle.datum.specs.Constant.{Constant, matches}
use Rattle.datum.specs.Datum.{Datum, Data}
use Rattle.core_term.specs.Term.{Plain, Plains}
use Rattle.comparison.specs.Closed.{inside}
use Rattle.comparison.specs.Agrees.{Scope, meant, bind, same_datum, same_data, agrees}
use Rattle.comparison.specs.Same as S
use Rattle.comparison.specs.Same.{Same, SameAll}
use Rattle.comparison.proofs.SameLaws.{same-agrees}
use Rattle.comparison.specs.Binders.{numbers}
use Rattle.comparison.specs.Rendering.{Choice, render_datum, render_data, render, render_all, Seen, here, past, Spelled, SpelledAll, constant', name', list', no_data, more_data, Uncaptured, UncapturedAll, variable', operation', datum', if', lambda', application', none', more'}

-- ---- equality of lists and of constants

pub equal_is : (cs ds : List ℕ) → cs ≡ ds → equal cs ds ≡ true
equal_is cs ds e = subst (λ l. equal cs l ≡ true) e (equal-refl cs)

pub constant-self : (a : Constant) → matches a a ≡ true
unfolding matches
constant-self a = and_both _ _ (eq-eqb a.kind a.kind refl) (and_both _ _ (eq-eqb a.first a.first refl) (eq-eqb a.second a.second refl))

numbers-length : (v k : ℕ) → length (numbers v k) ≡ k
unfolding numbers
numbers-length v zero = refl
numbers-length v (suc k) = ap suc (numbers-length (suc v) k)

module _ (c : Choice) where
  -- the scope of variables, by the names that they have
  abbrev pub scope : List ℕ → Scope
  scope round = map (λ v. (c.called v, v)) round

  seen-meant : {v : ℕ} {round : List ℕ} → Seen c v round → meant (c.called v) (scope round) ≡ some v
  unfolding meant
  seen-meant {v} here = rw (eq-eqb (c.called v) (c.called v) refl)
  seen-meant {v} (past {w = w} f p) = rw (ne_eqb (c.called v) (c.called w) f) (seen-meant p)

  free-meant : (n : ℕ) {round : List ℕ} → Each (λ w. n ≡ c.called w → ⊥) round → meant n (scope round) ≡ none
  unfolding meant
  free-meant n none_of = refl
  free-meant n (also {x = w} f p) = rw (ne_eqb n (c.called w) f) (free-meant n p)

  pub bind-scope : (v k : ℕ) (round : List ℕ) → bind (map c.called (numbers v k)) v (scope round) ≡ scope (inside (numbers v k) round)
  unfolding bind inside numbers
  bind-scope v zero round = refl
  bind-scope v (suc k) round = bind-scope (suc v) k (v ∷ round)

  module _ (theirs ours : ℕ → List ℕ) (operations : List (List ℕ)) where
    mutual
      unfolding same_datum render_datum

      datum-same : {d : Datum} → Spelled c theirs ours operations d → same_datum theirs ours operations (render_datum c d) d ≡ true
      datum-same (constant' {a}) = constant-self a
      datum-same (name' {n} e) = equal_is (theirs (c.quoted n)) (ours n) e
      datum-same (list' p) = data-same p

      data-same : {ds : Data} → SpelledAll c theirs ours operations ds → same_data theirs ours operations (render_data c ds) ds ≡ true
      data-same no_data = refl
      data-same (more_data p ps) = and_both _ _ (datum-same p) (data-same ps)

    mutual
      unfolding render

      rendering-same : {round : List ℕ} {t : Plain} → Uncaptured c theirs ours operations round t → Same theirs ours operations (scope round) (render c t) t
      rendering-same (variable' p) = S.variable' (seen-meant p)
      rendering-same (operation' {p = p} f e) = S.operation' (free-meant (c.operation p) f) (equal_is (theirs (c.operation p)) (get_or operations p []) e)
      rendering-same (datum' p) = S.datum' (datum-same p)
      rendering-same (if' p q r) = S.if' (rendering-same p) (rendering-same q) (rendering-same r)
      rendering-same {round} (lambda' {v = v} {fs = fs} {x = x} p) =
          S.lambda' (length-map (numbers v (length fs)) c.called ∙ numbers-length v (length fs))
          (subst (λ s. Same theirs ours operations s (render c x) x) (sym (bind-scope v (length fs) round)) (rendering-same p))
      rendering-same (application' p ps) = S.application' (rendering-same p) (renderings-same ps)

      renderings-same : {round : List ℕ} {ts : Plains} → UncapturedAll c theirs ours operations round ts
          → SameAll theirs ours operations (scope round) (render_all c ts) ts
      renderings-same none' = S.none'
      renderings-same (more' p ps) = S.more' (rendering-same p) (renderings-same ps)

    pub rendering-agrees : (t : Plain) → Uncaptured c theirs ours operations [] t → agrees theirs ours operations [] (render c t) t ≡ true
    rendering-agrees t p = same-agrees theirs ours operations (rendering-same p)
