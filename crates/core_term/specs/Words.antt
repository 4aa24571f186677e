-- The words of data and terms: each node's own, then its parts'.
use Rattle.std.specs.Prelude.{List, [], ◌++◌, ℕ}
use Rattle.datum.specs.Datum.{Datum, constant_d, name_d, list_d, Data, none_d, more_d}
use Rattle.datum.specs.Datum as D
use Rattle.core_term.specs.Node.{node_words, variable_n, operation_n, constant_n, name_n, list_n, if_n, lambda_n, application_n}
use Rattle.core_term.specs.Term.{variable_c, operation_c, datum_c, if_c, lambda_c, application_c, none_c, more_c, Plain, Plains, count}

unfoldable mutual
  pub datum_words : Datum → List ℕ
  datum_words (constant_d a) = node_words (constant_n a)
  datum_words (name_d n) = node_words (name_n n)
  datum_words (list_d ds) = node_words (list_n (D.count ds)) ++ data_words ds

  pub data_words : Data → List ℕ
  data_words none_d = []
  data_words (more_d d ds) = datum_words d ++ data_words ds

unfoldable mutual
  pub encode : Plain → List ℕ
  encode (variable_c n) = node_words (variable_n n)
  encode (operation_c n) = node_words (operation_n n)
  encode (datum_c d) = datum_words d
  encode (if_c x y z) = node_words if_n ++ (encode x ++ (encode y ++ encode z))
  encode (lambda_c first names body) = node_words (lambda_n first names) ++ encode body
  encode (application_c h ts) = node_words (application_n (count ts)) ++ (encode h ++ encode_all ts)

  pub encode_all : Plains → List ℕ
  encode_all none_c = []
  encode_all (more_c t ts) = encode t ++ encode_all ts
