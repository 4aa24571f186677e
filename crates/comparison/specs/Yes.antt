-- What yes says of a text that was read, and which texts get it.
use Rattle.std.specs.Prelude.{◌≡◌, true, ℕ}
use Rattle.std.proofs.Common.{◌∙◌}
use mathlib.Core.List.{List, [], ◌∷◌, ◌++◌}
use Rattle.std.proofs.Math.Option.{some}
use Rattle.datum.specs.Datum.{Datum}
use Rattle.datum.specs.NameTable.{name_at}
use Rattle.reading.specs.Read.{Recipe, name_bytes}
use Rattle.core_term.specs.Term.{Plain}
use Rattle.comparison.specs.Expression.{Expression}
use Rattle.comparison.specs.Grammar.{the_one, expression_of}
use Rattle.comparison.specs.Agrees.{agrees}
use Rattle.comparison.specs.Compare.{Verdict, yes, no, refused_on}

-- ---- verdicts differ

abbrev pub code : Verdict → ℕ
code yes = 0
code no = 1
code (refused_on g) = 2

module _ (ours : ℕ → List ℕ) (operations : List (List ℕ)) (t : Plain) (r : Recipe) where
  abbrev pub theirs : ℕ → List ℕ
  theirs = name_at (name_bytes r)

  -- ---- what yes says

  -- the element is an expression that is our term
  pub record Told : Type 0 where
    pub element : Datum
    pub expression : Expression
    pub is-element : the_one r.elements ≡ some element
    pub is-expression : expression_of element ≡ some expression
    pub agreed : agrees theirs ours operations [] expression t ≡ true
