-- What agrees with a term of the recipe's operations is closed: ground 22 turns back no expression that is our term.
use Rattle.std.specs.Prelude.{◌≡◌, refl, Bool, true, ◌&&◌, ℕ, zero, suc, ◌+◌, ◌<◌, eqb, length, get_or}
use Rattle.std.proofs.Common.{subst, arith, ltb-true}
use mathlib.Core.List.{List, [], ◌∷◌}
use Rattle.std.proofs.Math.Option.{some, none-ne-some}
use Rattle.words.specs.ListLaws.{either}
use Rattle.words.specs.Lists.{all_of, any_of, equal}
use Rattle.words.specs.TestLaws.{and_left, and_right, and_both, or_left, or_right}
use Rattle.core_term.specs.Node.{if_n, lambda_n, application_n}
use Rattle.core_term.specs.Term.{count, variables, Plain, Plains}
use Rattle.core_term.specs.Every.{every, every_term}
use Rattle.core_term.specs.Check as K
use Rattle.core_term.specs.Check.{outside, asked, known, all_known}
use Rattle.comparison.specs.Expression.{Expression, Expressions}
use Rattle.comparison.specs.Closed.{inside, closed, closed_all}
use Rattle.comparison.specs.Agrees.{Scope, meant, agrees}
use Rattle.comparison.specs.Same.{Same, SameAll, variable', operation', datum', if', lambda', application', none', more'}
use Rattle.comparison.proofs.SameLaws.{agrees-says}
use Rattle.comparison.specs.BindersLaws.{names_in}
use Rattle.comparison.proofs.BindersLaws.{bind-names}

-- a name that means a variable is a formal's
meant-formal : (n v : ℕ) (s : Scope) → meant n s ≡ some v → any_of (eqb n) (names_in s) ≡ true
unfolding meant any_of
meant-formal n v [] e = absurd (none-ne-some _ e)
meant-formal n v ((x, w) ∷ s) e = either (eqb n x) (λ h. rw h) (λ h. or_right (eqb n x) _ (meant-formal n v s (rw h at e)))

-- a spelling at a place of a list is in the list
any_at : (f : List ℕ → Bool) (p : ℕ) (l : List (List ℕ)) → p < length l → f (get_or l p []) ≡ true → any_of f l ≡ true
unfolding any_of
any_at f p [] h e = absurd (omega arith)
any_at f zero (x ∷ l) h e = or_left _ _ e
any_at f (suc p) (x ∷ l) h e = or_right (f x) _ (any_at f p l (omega arith) e)

module _ (theirs ours : ℕ → List ℕ) (operations : List (List ℕ)) (name_good : ℕ → Bool) where
  abbrev is_operation : ℕ → Bool
  is_operation n = any_of (equal (theirs n)) operations

  abbrev test : K.Scope → ℕ → Plain → Bool
  test = every (asked (known (length operations) name_good))

  mutual
    unfolding closed every asked known

    same-closed : {s : Scope} {x : Expression} {t : Plain} (e : K.Scope) (b : ℕ) → Same theirs ours operations s x t → test e b t ≡ true
        → closed is_operation (names_in s) x ≡ true
    same-closed {s} e b (variable' {n = n} {v = v} m) h = or_left _ _ (meant-formal n v s m)
    same-closed {s} e b (operation' {n = n} {p = p} m q) h =
        or_right (any_of (eqb n) (names_in s)) _ (any_at (equal (theirs n)) p operations (ltb-true p (length operations) h) q)
    same-closed e b (datum' q) h = refl
    same-closed e b (if' {a = a} {b = c} {c = d} x y z) h =
        let i = K.inside e b if_n in
        let k = and_right (test i b a) (test i (b + variables a) c && test i (b + variables a + variables c) d) h in
        and_both _ _ (same-closed i b x (and_left _ _ h))
        (and_both _ _ (same-closed i (b + variables a) y (and_left _ _ k)) (same-closed i (b + variables a + variables c) z (and_right (test i (b + variables a) c) _ k)))
    same-closed {s} e b (lambda' {ns = ns} {x = x} {v = v} {fs = fs} l q) h =
        subst (λ r. closed is_operation r x ≡ true) (bind-names ns v s) (same-closed (K.inside e b (lambda_n v fs)) (b + length fs) q (and_right (all_of name_good fs) _ h))
    same-closed e b (application' {g = g} {ts = ts} q qs) h =
        let i = K.inside e b (application_n (count ts)) in
        and_both _ _ (same-closed i b q (and_left _ _ h)) (all_closed i (b + variables g) qs (and_right (test i b g) _ h))

    all_closed : {s : Scope} {xs : Expressions} {ts : Plains} (e : K.Scope) (b : ℕ) → SameAll theirs ours operations s xs ts
        → every_term (asked (known (length operations) name_good)) e b ts ≡ true → closed_all is_operation (names_in s) xs ≡ true
    all_closed e b none' h = refl
    all_closed e b (more' {t = t} q qs) h =
        and_both _ _ (same-closed e b q (and_left _ _ h)) (all_closed e (b + variables t) qs (and_right (test e b t) _ h))

  pub agrees-closed : (x : Expression) (t : Plain) → all_known (length operations) name_good t ≡ true → agrees theirs ours operations [] x t ≡ true
      → closed is_operation [] x ≡ true
  unfolding all_known
  agrees-closed x t h a = same-closed outside 0 (agrees-says theirs ours operations [] x t a) h
