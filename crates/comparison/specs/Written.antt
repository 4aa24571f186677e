-- An expression as an element of a text, and which expressions texts have.
use Rattle.std.specs.Prelude.{Bool, true, ◌&&◌, List, [], ◌∷◌, ℕ}
use Rattle.datum.specs.Datum.{Datum, constant_d, name_d, list_d, Data, none_d, more_d}
use Rattle.comparison.specs.Expression.{Expression, reference_e, datum_e, if_e, lambda_e, application_e, Expressions, none_e, more_e}
use Rattle.comparison.specs.Grammar.{is_free, are_formals}

-- a constant stands bare, all else in a quotation
unfoldable pub quotation : Datum → Datum
quotation (constant_d a) = constant_d a
quotation (name_d n) = list_d (more_d (name_d 0) (more_d (name_d n) none_d))
quotation (list_d ds) = list_d (more_d (name_d 0) (more_d (list_d ds) none_d))

unfoldable pub name_data : List ℕ → Data
name_data [] = none_d
name_data (n ∷ ns) = more_d (name_d n) (name_data ns)

-- an expression as writing writes it, names aside
unfoldable mutual
  pub written : Expression → Datum
  written (reference_e n) = name_d n
  written (datum_e d) = quotation d
  written (if_e x y z) = list_d (more_d (name_d 1) (more_d (written x) (more_d (written y) (more_d (written z) none_d))))
  written (lambda_e ns x) = list_d (more_d (name_d 2) (more_d (list_d (name_data ns)) (more_d (written x) none_d)))
  written (application_e h xs) = list_d (more_d (written h) (written_all xs))

  pub written_all : Expressions → Data
  written_all none_e = none_d
  written_all (more_e x xs) = more_d (written x) (written_all xs)

-- quote, if and lambda are no references and no formals, and one lambda binds 0 to 8 names, none twice
unfoldable mutual
  pub is_expression : Expression → Bool
  is_expression (reference_e n) = is_free n
  is_expression (datum_e d) = true
  is_expression (if_e x y z) = is_expression x && (is_expression y && is_expression z)
  is_expression (lambda_e ns x) = are_formals ns && is_expression x
  is_expression (application_e h xs) = is_expression h && are_expressions xs

  pub are_expressions : Expressions → Bool
  are_expressions none_e = true
  are_expressions (more_e x xs) = is_expression x && are_expressions xs
