-- The text of a term said by scope: a lambda's formals bear the names that it holds itself, and a variable the name that the
-- innermost lambda around it that binds it holds for it. OwnNamesLaws.antt: past ground 19 this is the text.
use Rattle.std.specs.Prelude.{cond, ◌&&◌, List, [], ◌∷◌, ◌++◌, ℕ, suc, ◌+◌, ◌-◌, leb, ltb, length, get_or}
use Rattle.words.specs.Text.{bytes}
use Rattle.core_term.specs.Term.{variable_c, operation_c, datum_c, if_c, lambda_c, application_c, none_c, more_c, Plain, Plains}
use Rattle.core_term.specs.Decimal.{decimal}
use Rattle.core_term.specs.Text.{parenthesized, operation_text, outermost}

-- the name of each variable whose lambda is around
abbrev pub Names : Type 0
Names = ℕ → ℕ

unfoldable pub none : Names
none n = 0

-- inside a lambda its own variables have its own names
unfoldable pub bound : Names → ℕ → List ℕ → Names
bound e first names n = cond (leb first n && ltb n (first + length names)) (get_or names (n - first) 0) (e n)

module _ (spell : ℕ → List ℕ) where
  -- v0.t
  unfoldable pub variable_as : ℕ → ℕ → List ℕ
  variable_as n name = 118 ∷ (decimal n ++ (46 ∷ spell name))

  -- v0.t v1.u: numbers from the first on, and a lambda's names
  unfoldable pub formals_as : ℕ → List ℕ → List (List ℕ)
  formals_as first [] = []
  formals_as first (name ∷ names) = variable_as first name ∷ formals_as (suc first) names

  unfoldable mutual
    pub text_as : Names → Plain → List ℕ
    text_as e (variable_c n) = variable_as n (e n)
    text_as e (operation_c n) = operation_text n
    text_as e (datum_c d) = outermost spell d
    text_as e (if_c x y z) = parenthesized (bytes "if" ∷ text_as e x ∷ text_as e y ∷ text_as e z ∷ [])
    text_as e (lambda_c first names body) =
        parenthesized (bytes "lambda" ∷ parenthesized (formals_as first names) ∷ text_as (bound e first names) body ∷ [])
    text_as e (application_c h ts) = parenthesized (text_as e h ∷ texts_as e ts)

    pub texts_as : Names → Plains → List (List ℕ)
    texts_as e none_c = []
    texts_as e (more_c t ts) = text_as e t ∷ texts_as e ts

unfoldable pub own_text : (ℕ → List ℕ) → Plain → List ℕ
own_text spell t = text_as spell none t
