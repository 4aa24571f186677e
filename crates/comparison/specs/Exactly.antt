-- Yes is exactly 'a rendering of our term': what a rendering is for an expression, and the choice of names that an expression shows.
use Rattle.std.specs.Prelude.{◌≡◌, List, [], ◌++◌, ℕ, get_or}
use Rattle.datum.specs.Constant.{Constant}
use Rattle.datum.specs.Datum.{Datum, constant_d, name_d, list_d, Data, none_d, more_d}
use Rattle.core_term.specs.Term.{Plain}
use Rattle.comparison.specs.Expression.{Expression, reference_e, datum_e, if_e, lambda_e, application_e, Expressions, none_e, more_e}
use Rattle.comparison.specs.Rendering.{Choice, render, Uncaptured}

-- an expression is our term in names of some choice, which captures no reference
pub record Rendered (theirs ours : ℕ → List ℕ) (operations : List (List ℕ)) (t : Plain) (x : Expression) : Type 0 where
  pub choice : Choice
  pub is-rendered : x ≡ render choice t
  pub uncaptured : Uncaptured choice theirs ours operations [] t

-- ---- the choice

-- the formals of an expression's lambdas, from the left
unfoldable mutual
  pub formals_in : Expression → List ℕ
  formals_in (reference_e n) = []
  formals_in (datum_e d) = []
  formals_in (if_e x y z) = formals_in x ++ (formals_in y ++ formals_in z)
  formals_in (lambda_e ns x) = ns ++ formals_in x
  formals_in (application_e h xs) = formals_in h ++ formals_in_all xs

  pub formals_in_all : Expressions → List ℕ
  formals_in_all none_e = []
  formals_in_all (more_e x xs) = formals_in x ++ formals_in_all xs

-- variable v has the name that `called` gives it, other names have the number of our spelling
unfoldable pub chosen : (number : List ℕ → ℕ) (ours : ℕ → List ℕ) (operations : List (List ℕ)) (called : ℕ → ℕ) → Choice
chosen number ours operations called = record { called = called; operation = λ p. number (get_or operations p []); quoted = λ n. number (ours n) }

-- variables are numbered from the left, so variable v has formal v
unfoldable pub formal_at : Expression → ℕ → ℕ
formal_at x v = get_or (formals_in x) v 0

-- ---- the names of an element

module _ (P : ℕ → Type 0) where
  mutual
    pub data Named : Datum → Type 0 where
      constant_of : {a : Constant} → Named (constant_d a)
      name_of : {n : ℕ} → P n → Named (name_d n)
      list_of : {ds : Data} → NamedAll ds → Named (list_d ds)

    pub data NamedAll : Data → Type 0 where
      none_of : NamedAll none_d
      more_of : {d : Datum} {ds : Data} → Named d → NamedAll ds → NamedAll (more_d d ds)
