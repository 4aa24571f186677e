-- The supplier's core texts: our core grammar, with names where our term has variables and operations.
-- Names are by number in the text's own name table.
use Rattle.std.specs.Prelude.{List, ℕ}
use Rattle.datum.specs.Datum.{Datum}

-- a datum is a constant, or what stands in a quotation
mutual
  pub data Expression : Type 0 where
    reference_e : (name : ℕ) → Expression
    datum_e : Datum → Expression
    if_e : (test yes no : Expression) → Expression
    lambda_e : (formals : List ℕ) (body : Expression) → Expression
    application_e : (head : Expression) (operands : Expressions) → Expression

  pub data Expressions : Type 0 where
    none_e : Expressions
    more_e : (first : Expression) (rest : Expressions) → Expressions
