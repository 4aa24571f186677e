-- Words back to terms: a term is read from the beginning of the words, node by node, and decode wants nothing left.
-- Every node takes a word, so that the count of the words is gas enough.
use Rattle.std.specs.Prelude.{List, [], ◌∷◌, ℕ, zero, suc, length}
use Rattle.std.proofs.Math.Option.{Option, none, some}
use Rattle.words.specs.Lists.{within}
use Rattle.datum.specs.Constant.{integer, boolean, decimal, is_constant}
use Rattle.datum.specs.Datum.{Datum, constant_d, name_d, list_d, Data, none_d, more_d}
use Rattle.core_term.specs.Node.{Node, Got, got, missing, Read, nothing, with_word, with_two, with_names, alone, codes, of_code, is_node, sound, node_at, variable_n, operation_n, constant_n, name_n, list_n, if_n, lambda_n, application_n}
use Rattle.core_term.specs.Term.{variable_c, operation_c, datum_c, if_c, lambda_c, application_c, none_c, more_c, Plain, Plains}

-- ---- reading one thing after another

module _ {A : Type 0} where
  unfoldable pub pure : A → Read A
  pure a ws = got a ws

module _ {A B : Type 0} where
  -- what f reads after what has been read
  unfoldable pub after : Got A → (A → Read B) → Got B
  after missing f = missing
  after (got a ws) f = f a ws

  unfoldable pub ◌>>=◌ : Read A → (A → Read B) → Read B
  ◌>>=◌ m f ws = after (m ws) f

-- ---- data

-- n data, each read by one
unfoldable pub data_by : Read Datum → ℕ → Read Data
data_by one zero = pure none_d
data_by one (suc n) = do
  d ← one
  ds ← data_by one n
  pure (more_d d ds)

-- the datum that a node begins; only codes 2 to 5 and 9 begin one
unfoldable pub datum_from : Read Datum → Node → Read Datum
datum_from one (variable_n n) = nothing
datum_from one (operation_n n) = nothing
datum_from one (constant_n a) = pure (constant_d a)
datum_from one (name_n n) = pure (name_d n)
datum_from one (list_n n) = do
  ds ← data_by one n
  pure (list_d ds)
datum_from one if_n = nothing
datum_from one (lambda_n first names) = nothing
datum_from one (application_n n) = nothing

unfoldable pub datum_at : ℕ → Read Datum
datum_at zero = nothing
datum_at (suc gas) = do
  x ← node_at
  datum_from (datum_at gas) x

-- ---- terms

-- n terms, each read by one
unfoldable pub terms_by : Read Plain → ℕ → Read Plains
terms_by one zero = pure none_c
terms_by one (suc n) = do
  t ← one
  ts ← terms_by one n
  pure (more_c t ts)

-- the term that a node begins
unfoldable pub term_from : Read Datum → Read Plain → Node → Read Plain
term_from datum one (variable_n n) = pure (variable_c n)
term_from datum one (operation_n n) = pure (operation_c n)
term_from datum one (constant_n a) = pure (datum_c (constant_d a))
term_from datum one (name_n n) = pure (datum_c (name_d n))
term_from datum one (list_n n) = do
  ds ← data_by datum n
  pure (datum_c (list_d ds))
term_from datum one if_n = do
  x ← one
  y ← one
  z ← one
  pure (if_c x y z)
term_from datum one (lambda_n first names) = do
  body ← one
  pure (lambda_c first names body)
term_from datum one (application_n n) = do
  h ← one
  ts ← terms_by one n
  pure (application_c h ts)

unfoldable pub term_at : ℕ → Read Plain
term_at zero = nothing
term_at (suc gas) = do
  x ← node_at
  term_from (datum_at gas) (term_at gas) x

-- ---- exactly one term

unfoldable pub whole : Got Plain → Option Plain
whole missing = none
whole (got t []) = some t
whole (got t (w ∷ ws)) = none

unfoldable pub decode : List ℕ → Option Plain
unfolding codes with_word with_two with_names alone integer boolean decimal within is_constant nothing of_code is_node sound node_at pure after ◌>>=◌ data_by datum_from datum_at terms_by term_from term_at whole
decode ws = whole (term_at (length ws) ws)
