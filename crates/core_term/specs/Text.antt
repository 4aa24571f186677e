-- The one text of a term. `spell` is the spelling of each name.
use Rattle.std.specs.Prelude.{cond, List, [], ◌∷◌, ◌++◌, ℕ, zero, suc, eqb, length, get_or}
use Rattle.words.specs.Text.{bytes}
use Rattle.datum.specs.Constant.{Constant, decimal_kind}
use Rattle.datum.specs.Datum.{Datum, constant_d, name_d, list_d, Data, none_d, more_d}
use Rattle.core_term.specs.Term.{variable_c, operation_c, datum_c, if_c, lambda_c, application_c, none_c, more_c, Plain, Plains, formals_of}
use Rattle.core_term.specs.Decimal.{decimal, integer_text, decimal_text}

-- single spaces between
unfoldable pub spaced_after : List ℕ → List (List ℕ) → List ℕ
spaced_after t [] = t
spaced_after t (u ∷ us) = t ++ (32 ∷ spaced_after u us)

unfoldable pub spaced : List (List ℕ) → List ℕ
spaced [] = []
spaced (t ∷ ts) = spaced_after t ts

unfoldable pub parenthesized : List (List ℕ) → List ℕ
parenthesized ts = 40 ∷ (spaced ts ++ (41 ∷ []))

-- o0
unfoldable pub operation_text : ℕ → List ℕ
operation_text n = 111 ∷ decimal n

-- an integer, a decimal with its places, #t or #f
unfoldable pub constant_text : Constant → List ℕ
constant_text a =
    cond (eqb a.kind 1) (integer_text a.first) (cond (eqb a.kind decimal_kind) (decimal_text a.first a.second)
    (cond (eqb a.first 0) (bytes "#f") (bytes "#t")))

module _ (spell : ℕ → List ℕ) where
  -- inside quote: bare names and lists
  unfoldable mutual
    pub bare : Datum → List ℕ
    bare (constant_d a) = constant_text a
    bare (name_d n) = spell n
    bare (list_d ds) = parenthesized (bares ds)

    pub bares : Data → List (List ℕ)
    bares none_d = []
    bares (more_d d ds) = bare d ∷ bares ds

  -- (quote d) round an outermost name or list
  unfoldable pub outermost : Datum → List ℕ
  outermost (constant_d a) = bare (constant_d a)
  outermost (name_d n) = parenthesized (bytes "quote" ∷ bare (name_d n) ∷ [])
  outermost (list_d ds) = parenthesized (bytes "quote" ∷ bare (list_d ds) ∷ [])

-- within a term whose variables have these names, by number
module _ (spell : ℕ → List ℕ) (called : List ℕ) where
  -- v0.t, at formals and at every use
  unfoldable pub variable_text : ℕ → List ℕ
  variable_text n = 118 ∷ (decimal n ++ (46 ∷ spell (get_or called n 0)))

  -- v0.t v1.u: n variables from the first
  unfoldable pub formal_texts : ℕ → ℕ → List (List ℕ)
  formal_texts first zero = []
  formal_texts first (suc n) = variable_text first ∷ formal_texts (suc first) n

  unfoldable mutual
    pub text_in : Plain → List ℕ
    text_in (variable_c n) = variable_text n
    text_in (operation_c n) = operation_text n
    text_in (datum_c d) = outermost spell d
    text_in (if_c x y z) = parenthesized (bytes "if" ∷ text_in x ∷ text_in y ∷ text_in z ∷ [])
    text_in (lambda_c first names body) =
        parenthesized (bytes "lambda" ∷ parenthesized (formal_texts first (length names)) ∷ text_in body ∷ [])
    text_in (application_c h ts) = parenthesized (text_in h ∷ texts_in ts)

    pub texts_in : Plains → List (List ℕ)
    texts_in none_c = []
    texts_in (more_c t ts) = text_in t ∷ texts_in ts

-- variables are numbered in the words' order (ground 19), so the n-th formal names variable n
unfoldable pub text : (ℕ → List ℕ) → Plain → List ℕ
unfolding formals_of
text spell t = text_in spell (formals_of t) t
