-- The grammar is what writing writes: our term rendered, written as an element, and that element as text, is the writer's text of our term
-- with other words for variables and operations.
use Rattle.std.specs.Prelude.{◌≡◌, length}
use mathlib.Core.List.{List, [], ◌∷◌, map}
use Prim.Native.Nat.{ℕ}
use Rattle.words.specs.Text.{bytes}
use Rattle.core_term.specs.Term.{variable_c, operation_c, datum_c, if_c, lambda_c, application_c, none_c, more_c, Plain, Plains}
use Rattle.core_term.specs.Text.{parenthesized, outermost}
use Rattle.comparison.specs.Binders.{numbers}

-- the text of a term, with a word for each variable and operation
module _ (spell variable operation : ℕ → List ℕ) where
  unfoldable mutual
    pub said : Plain → List ℕ
    said (variable_c n) = variable n
    said (operation_c n) = operation n
    said (datum_c d) = outermost spell d
    said (if_c x y z) = parenthesized (bytes "if" ∷ said x ∷ said y ∷ said z ∷ [])
    said (lambda_c v fs x) = parenthesized (bytes "lambda" ∷ parenthesized (map variable (numbers v (length fs))) ∷ said x ∷ [])
    said (application_c h ts) = parenthesized (said h ∷ said_all ts)

    pub said_all : Plains → List (List ℕ)
    said_all none_c = []
    said_all (more_c t ts) = said t ∷ said_all ts
