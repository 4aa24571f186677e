-- `agrees` decides whether an expression is our term.
use Rattle.std.specs.Prelude.{◌≡◌, true, ◌&&◌, List, ℕ, eqb, length}
use Rattle.std.proofs.Math.Path.{refl}
use Rattle.std.proofs.Common.{subst, eqb-true, eq-eqb}
use Rattle.std.proofs.Math.Option.{Option, none, some}
use Rattle.words.specs.ListLaws.{never}
use Rattle.words.specs.TestLaws.{and_left, and_right, and_both}
use Rattle.core_term.specs.Term.{variable_c, operation_c, datum_c, if_c, lambda_c, application_c, none_c, more_c, Plain, Plains}
use Rattle.comparison.specs.Expression.{Expression, reference_e, datum_e, if_e, lambda_e, application_e, Expressions, none_e, more_e}
use Rattle.comparison.specs.Agrees.{Scope, meant, bind, on_variable, on_operation, on_datum, on_if, on_lambda, on_application, same_name, agrees, agree_all}
use Rattle.comparison.specs.Same.{Same, SameAll, variable', operation', datum', if', lambda', application', none', more'}

module _ (theirs ours : ℕ → List ℕ) (operations : List (List ℕ)) where
  abbrev Is : Scope → Expression → Plain → Type 0
  Is = Same theirs ours operations

  abbrev Are : Scope → Expressions → Plains → Type 0
  Are = SameAll theirs ours operations

  -- ---- an agreement says so

  name-says : (s : Scope) (n : ℕ) (o : Option ℕ) (t : Plain) → meant n s ≡ o → same_name theirs ours operations n o t ≡ true → Is s (reference_e n) t
  unfolding same_name on_variable on_operation
  name-says s n (some v) (variable_c w) e h = variable' (subst (λ k. meant n s ≡ some k) (eqb-true v w h) e)
  name-says s n (some v) (operation_c p) e h = never h refl
  name-says s n (some v) (datum_c d) e h = never h refl
  name-says s n (some v) (if_c a b c) e h = never h refl
  name-says s n (some v) (lambda_c w fs a) e h = never h refl
  name-says s n (some v) (application_c g ts) e h = never h refl
  name-says s n none (variable_c w) e h = never h refl
  name-says s n none (operation_c p) e h = operation' e h
  name-says s n none (datum_c d) e h = never h refl
  name-says s n none (if_c a b c) e h = never h refl
  name-says s n none (lambda_c w fs a) e h = never h refl
  name-says s n none (application_c g ts) e h = never h refl

  mutual
    unfolding agrees on_datum on_if on_lambda on_application

    pub agrees-says : (s : Scope) (x : Expression) (t : Plain) → agrees theirs ours operations s x t ≡ true → Is s x t
    agrees-says s (reference_e n) t h = name-says s n (meant n s) t refl h
    agrees-says s (datum_e d) (variable_c w) h = never h refl
    agrees-says s (datum_e d) (operation_c p) h = never h refl
    agrees-says s (datum_e d) (datum_c e) h = datum' h
    agrees-says s (datum_e d) (if_c a b c) h = never h refl
    agrees-says s (datum_e d) (lambda_c w fs a) h = never h refl
    agrees-says s (datum_e d) (application_c g ts) h = never h refl
    agrees-says s (if_e x y z) (variable_c w) h = never h refl
    agrees-says s (if_e x y z) (operation_c p) h = never h refl
    agrees-says s (if_e x y z) (datum_c e) h = never h refl
    agrees-says s (if_e x y z) (if_c a b c) h =
        let k = and_right (agrees theirs ours operations s x a) (agrees theirs ours operations s y b && agrees theirs ours operations s z c) h in
        if' (agrees-says s x a (and_left _ _ h)) (agrees-says s y b (and_left _ _ k)) (agrees-says s z c (and_right (agrees theirs ours operations s y b) _ k))
    agrees-says s (if_e x y z) (lambda_c w fs a) h = never h refl
    agrees-says s (if_e x y z) (application_c g ts) h = never h refl
    agrees-says s (lambda_e ns x) (variable_c w) h = never h refl
    agrees-says s (lambda_e ns x) (operation_c p) h = never h refl
    agrees-says s (lambda_e ns x) (datum_c e) h = never h refl
    agrees-says s (lambda_e ns x) (if_c a b c) h = never h refl
    agrees-says s (lambda_e ns x) (lambda_c w fs a) h =
        lambda' (eqb-true (length ns) (length fs) (and_left _ _ h)) (agrees-says (bind ns w s) x a (and_right (eqb (length ns) (length fs)) _ h))
    agrees-says s (lambda_e ns x) (application_c g ts) h = never h refl
    agrees-says s (application_e f xs) (variable_c w) h = never h refl
    agrees-says s (application_e f xs) (operation_c p) h = never h refl
    agrees-says s (application_e f xs) (datum_c e) h = never h refl
    agrees-says s (application_e f xs) (if_c a b c) h = never h refl
    agrees-says s (application_e f xs) (lambda_c w fs a) h = never h refl
    agrees-says s (application_e f xs) (application_c g ts) h =
        application' (agrees-says s f g (and_left _ _ h)) (agree-says s xs ts (and_right (agrees theirs ours operations s f g) _ h))

    agree-says : (s : Scope) (xs : Expressions) (ts : Plains) → agree_all theirs ours operations s xs ts ≡ true → Are s xs ts
    agree-says s none_e none_c h = none'
    agree-says s none_e (more_c t ts) h = never h refl
    agree-says s (more_e x xs) none_c h = never h refl
    agree-says s (more_e x xs) (more_c t ts) h =
        more' (agrees-says s x t (and_left _ _ h)) (agree-says s xs ts (and_right (agrees theirs ours operations s x t) _ h))

  -- ---- and nothing else agrees

  mutual
    unfolding agrees same_name on_variable on_operation on_datum on_if on_lambda on_application

    pub same-agrees : {s : Scope} {x : Expression} {t : Plain} → Is s x t → agrees theirs ours operations s x t ≡ true
    same-agrees (variable' {v = v} e) = rw e (eq-eqb v v refl)
    same-agrees (operation' e h) = rw e h
    same-agrees (datum' h) = h
    same-agrees (if' p q r) = and_both _ _ (same-agrees p) (and_both _ _ (same-agrees q) (same-agrees r))
    same-agrees (lambda' {ns = ns} {fs = fs} e p) = and_both _ _ (eq-eqb (length ns) (length fs) e) (same-agrees p)
    same-agrees (application' p ps) = and_both _ _ (same-agrees p) (all-agree ps)

    all-agree : {s : Scope} {xs : Expressions} {ts : Plains} → Are s xs ts → agree_all theirs ours operations s xs ts ≡ true
    all-agree none' = refl
    all-agree (more' p ps) = and_both _ _ (same-agrees p) (all-agree ps)
