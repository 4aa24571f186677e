-- L4 pays no heed to the name words of L5: terms that differ in what is said of their variables agree with the same expressions.
use Rattle.std.specs.Prelude.{◌≡◌, ◌&&◌, List, [], ◌∷◌, map, ℕ, suc, eqb, length}
use Rattle.std.proofs.Math.Path.{refl, sym, ap}
use Rattle.std.proofs.Common.{ap₂, ◌∙◌}
use Rattle.std.proofs.Math.Option.{Option, none, some}
use Rattle.core_term.specs.Term.{Term, Terms, variable_c, operation_c, datum_c, if_c, lambda_c, application_c, none_c, more_c, on_formals, on_formals_all, forget}
use Rattle.comparison.specs.Expression.{Expression, reference_e, datum_e, if_e, lambda_e, application_e, Expressions, none_e, more_e}
use Rattle.comparison.specs.Agrees.{Scope, meant, bind, on_variable, on_operation, on_datum, on_if, on_lambda, on_application, same_name, agrees, agree_all}

module _ (theirs ours : ℕ → List ℕ) (operations : List (List ℕ)) where
  module _ {F G : Type 0} (say : F → G) where
    as_many : (fs : List F) → length (map say fs) ≡ length fs
    as_many [] = refl
    as_many (f ∷ fs) = ap suc (as_many fs)

    name-heedless : (n : ℕ) (o : Option ℕ) (t : Term F) → same_name theirs ours operations n o (on_formals say t) ≡ same_name theirs ours operations n o t
    unfolding same_name on_variable on_operation on_formals
    name-heedless n none (variable_c v) = refl
    name-heedless n none (operation_c p) = refl
    name-heedless n none (datum_c d) = refl
    name-heedless n none (if_c x y z) = refl
    name-heedless n none (lambda_c v fs x) = refl
    name-heedless n none (application_c h ts) = refl
    name-heedless n (some v) (variable_c w) = refl
    name-heedless n (some v) (operation_c p) = refl
    name-heedless n (some v) (datum_c d) = refl
    name-heedless n (some v) (if_c x y z) = refl
    name-heedless n (some v) (lambda_c w fs x) = refl
    name-heedless n (some v) (application_c h ts) = refl

    mutual
      unfolding agrees on_datum on_if on_lambda on_application on_formals

      said-heedless : (s : Scope) (e : Expression) (t : Term F) → agrees theirs ours operations s e (on_formals say t) ≡ agrees theirs ours operations s e t
      said-heedless s (reference_e n) t = name-heedless n (meant n s) t
      said-heedless s (datum_e d) (variable_c v) = refl
      said-heedless s (datum_e d) (operation_c p) = refl
      said-heedless s (datum_e d) (datum_c b) = refl
      said-heedless s (datum_e d) (if_c x y z) = refl
      said-heedless s (datum_e d) (lambda_c v fs x) = refl
      said-heedless s (datum_e d) (application_c h ts) = refl
      said-heedless s (if_e x y z) (variable_c v) = refl
      said-heedless s (if_e x y z) (operation_c p) = refl
      said-heedless s (if_e x y z) (datum_c d) = refl
      said-heedless s (if_e x y z) (if_c a b c) = ap₂ ◌&&◌ (said-heedless s x a) (ap₂ ◌&&◌ (said-heedless s y b) (said-heedless s z c))
      said-heedless s (if_e x y z) (lambda_c v fs a) = refl
      said-heedless s (if_e x y z) (application_c h ts) = refl
      said-heedless s (lambda_e ns x) (variable_c v) = refl
      said-heedless s (lambda_e ns x) (operation_c p) = refl
      said-heedless s (lambda_e ns x) (datum_c d) = refl
      said-heedless s (lambda_e ns x) (if_c a b c) = refl
      said-heedless s (lambda_e ns x) (lambda_c v fs a) = ap₂ ◌&&◌ (ap (eqb (length ns)) (as_many fs)) (said-heedless (bind ns v s) x a)
      said-heedless s (lambda_e ns x) (application_c h ts) = refl
      said-heedless s (application_e h xs) (variable_c v) = refl
      said-heedless s (application_e h xs) (operation_c p) = refl
      said-heedless s (application_e h xs) (datum_c d) = refl
      said-heedless s (application_e h xs) (if_c a b c) = refl
      said-heedless s (application_e h xs) (lambda_c v fs a) = refl
      said-heedless s (application_e h xs) (application_c g ts) = ap₂ ◌&&◌ (said-heedless s h g) (all-heedless s xs ts)

      all-heedless : (s : Scope) (xs : Expressions) (ts : Terms F) → agree_all theirs ours operations s xs (on_formals_all say ts) ≡ agree_all theirs ours operations s xs ts
      all-heedless s none_e none_c = refl
      all-heedless s none_e (more_c t ts) = refl
      all-heedless s (more_e x xs) none_c = refl
      all-heedless s (more_e x xs) (more_c t ts) = ap₂ ◌&&◌ (said-heedless s x t) (all-heedless s xs ts)

  pub agrees-heedless : {F G : Type 0} (s : Scope) (e : Expression) (t : Term F) (u : Term G) → forget t ≡ forget u
      → agrees theirs ours operations s e t ≡ agrees theirs ours operations s e u
  unfolding forget
  agrees-heedless s e t u same =
      sym (said-heedless (λ f. tt) s e t) ∙ ap (agrees theirs ours operations s e) same ∙ said-heedless (λ f. tt) s e u
