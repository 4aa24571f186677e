-- The grammar is what is written: an element is an expression exactly where an expression is written so.
use Rattle.std.specs.Prelude.{◌≡◌, true, ◌&&◌, [], ◌∷◌}
use Rattle.std.proofs.Common.{◌∙◌}
use Rattle.datum.specs.Datum.{Datum, Data, none_d, more_d}
use Rattle.comparison.specs.Expression.{Expression, Expressions}
use Rattle.comparison.specs.Written.{written, written_all, is_expression, are_expressions}

-- ---- and back: an element that is an expression is that expression written

abbrev pub Good : Expression → Datum → Type 0
Good x d = (written x ≡ d) × (is_expression x ≡ true)

abbrev pub GoodAll : Expressions → Data → Type 0
GoodAll xs ds = (written_all xs ≡ ds) × (are_expressions xs ≡ true)

-- those behind the first element
abbrev pub GoodLater : Expressions → Data → Type 0
GoodLater xs none_d = ⊥
GoodLater xs (more_d d ds) = GoodAll xs ds
