-- The grammar (ground 21): which element is an expression. It is what writing writes, names aside (Written).
use Rattle.std.specs.Prelude.{Bool, true, not, ◌&&◌, List, [], ◌∷◌, ℕ, eqb, ltb, leb, length, get_or}
use Rattle.std.proofs.Math.Option.{Option, none, some}
use Rattle.words.specs.Limits.{formals_most}
use Rattle.words.specs.Lists.{all_of, any_of}
use Rattle.words.specs.Options.{only_if, map_some, map_both}
use Rattle.datum.specs.Datum.{Datum, constant_d, name_d, list_d, Data, none_d, more_d}
use Rattle.comparison.specs.Expression.{Expression, reference_e, datum_e, if_e, lambda_e, application_e, Expressions, none_e, more_e}

-- ---- names

-- quote, if and lambda are never bound and are no expressions; the other fixed names are names like any
unfoldable pub is_free : ℕ → Bool
is_free n = ltb 2 n

-- no name twice
unfoldable pub distinct : List ℕ → Bool
distinct [] = true
distinct (n ∷ ns) = not (any_of (eqb n) ns) && distinct ns

-- what one lambda may bind: 0 to 8 names, none of them twice
unfoldable pub are_formals : List ℕ → Bool
are_formals ns = all_of is_free ns && (distinct ns && leb (length ns) formals_most)

-- ---- the parts of a form, after its head

-- the one element
unfoldable pub the_one : Data → Option Datum
the_one none_d = none
the_one (more_d d none_d) = some d
the_one (more_d d (more_d e ds)) = none

-- the first element
unfoldable pub first : Data → Option Datum
first none_d = none
first (more_d d ds) = some d

-- a list of names
unfoldable pub names : Data → Option (List ℕ)
names none_d = some []
names (more_d (constant_d a) ds) = none
names (more_d (name_d n) ds) = map_some (◌∷◌ n) (names ds)
names (more_d (list_d es) ds) = none

-- ---- forms

unfoldable pub after : {A B : Type 0} → Option A → (A → Option B) → Option B
after none f = none
after (some a) f = f a

-- (quote d): a constant stands bare
unfoldable pub quoted : Datum → Option Expression
quoted (constant_d a) = none
quoted (name_d n) = some (datum_e (name_d n))
quoted (list_d ds) = some (datum_e (list_d ds))

-- (if a b c)
unfoldable pub conditional : Expressions → Option Expression
conditional none_e = none
conditional (more_e x none_e) = none
conditional (more_e x (more_e y none_e)) = none
conditional (more_e x (more_e y (more_e z none_e))) = some (if_e x y z)
conditional (more_e x (more_e y (more_e z (more_e w xs)))) = none

-- (lambda (name ...) body)
unfoldable pub formals : Datum → Option (List ℕ)
formals (constant_d a) = none
formals (name_d n) = none
formals (list_d ds) = after (names ds) (λ ns. only_if (are_formals ns) (some ns))

unfoldable pub with_body : List ℕ → Expressions → Option Expression
with_body ns none_e = none
with_body ns (more_e x none_e) = some (lambda_e ns x)
with_body ns (more_e x (more_e y xs)) = none

-- (f a ...)
unfoldable pub applied : Option Expression → Option Expressions → Option Expression
applied = map_both application_e

-- a list by its head: `parts` are the expressions behind it, `later` those behind the element after it
unfoldable pub headed : Datum → Data → (head : Option Expression) (parts later : Option Expressions) → Option Expression
headed (constant_d a) ds head parts later = applied head parts
headed (name_d n) ds head parts later =
    get_or (after (the_one ds) quoted ∷ after parts conditional ∷ after (after (first ds) formals) (λ ns. after later (with_body ns)) ∷ []) n
    (applied head parts)
headed (list_d es) ds head parts later = applied head parts

-- ---- expressions

-- the expression that an element is; none where it is outside the grammar
unfoldable mutual
  pub expression_of : Datum → Option Expression
  expression_of (constant_d a) = some (datum_e (constant_d a))
  expression_of (name_d n) = only_if (is_free n) (some (reference_e n))
  expression_of (list_d ds) = list_of ds

  pub list_of : Data → Option Expression
  list_of none_d = none
  list_of (more_d d ds) = headed d ds (expression_of d) (expressions_of ds) (later_of ds)

  pub expressions_of : Data → Option Expressions
  expressions_of none_d = some none_e
  expressions_of (more_d d ds) = map_both more_e (expression_of d) (expressions_of ds)

  pub later_of : Data → Option Expressions
  later_of none_d = none
  later_of (more_d d ds) = expressions_of ds
