-- What an agreement says, form by form: `agrees` decides it (SameLaws).
use Rattle.std.specs.Prelude.{◌≡◌, true, List, [], ℕ, length, get_or}
use Rattle.std.proofs.Math.Option.{none, some}
use Rattle.words.specs.Lists.{equal}
use Rattle.datum.specs.Datum.{Datum}
use Rattle.core_term.specs.Term.{variable_c, operation_c, datum_c, if_c, lambda_c, application_c, none_c, more_c, Plain, Plains}
use Rattle.comparison.specs.Expression.{Expression, reference_e, datum_e, if_e, lambda_e, application_e, Expressions, none_e, more_e}
use Rattle.comparison.specs.Agrees.{Scope, meant, bind, same_datum}

module _ (theirs ours : ℕ → List ℕ) (operations : List (List ℕ)) where
  mutual
    pub data Same : Scope → Expression → Plain → Type 0 where
      variable' : {s : Scope} {n v : ℕ} → meant n s ≡ some v → Same s (reference_e n) (variable_c v)
      operation' : {s : Scope} {n p : ℕ} → meant n s ≡ none → equal (theirs n) (get_or operations p []) ≡ true → Same s (reference_e n) (operation_c p)
      datum' : {s : Scope} {d e : Datum} → same_datum theirs ours operations d e ≡ true → Same s (datum_e d) (datum_c e)
      if' : {s : Scope} {x y z : Expression} {a b c : Plain} → Same s x a → Same s y b → Same s z c → Same s (if_e x y z) (if_c a b c)
      lambda' : {s : Scope} {ns : List ℕ} {x : Expression} {v : ℕ} {fs : List ℕ} {a : Plain} → length ns ≡ length fs → Same (bind ns v s) x a
          → Same s (lambda_e ns x) (lambda_c v fs a)
      application' : {s : Scope} {h : Expression} {xs : Expressions} {g : Plain} {ts : Plains} → Same s h g → SameAll s xs ts
          → Same s (application_e h xs) (application_c g ts)

    pub data SameAll : Scope → Expressions → Plains → Type 0 where
      none' : {s : Scope} → SameAll s none_e none_c
      more' : {s : Scope} {x : Expression} {xs : Expressions} {t : Plain} {ts : Plains} → Same s x t → SameAll s xs ts
          → SameAll s (more_e x xs) (more_c t ts)
