-- encode, then decode: a well-formed term is read back from its words, whatever follows them.
use Rattle.std.specs.Prelude.{◌≡◌, refl, true, List, ◌++◌, ℕ, zero, suc, ◌+◌, ◌≤◌, length}
use Rattle.std.proofs.Common.{◌∙◌, append_assoc, arith, length-append}
use Rattle.datum.specs.Datum.{Datum, constant_d, name_d, list_d, Data, none_d, more_d}
use Rattle.datum.specs.Datum as D
use Rattle.core_term.specs.Node.{Node, got, Read, is_node, node_words, node_at, variable_n, operation_n, constant_n, name_n, list_n, if_n, lambda_n, application_n}
use Rattle.core_term.specs.NodeLaws.{both, node-round, node-some}
use Rattle.core_term.specs.Term.{variable_c, operation_c, datum_c, if_c, lambda_c, application_c, none_c, more_c, Plain, Plains, count, variables}
use Rattle.core_term.specs.Words.{datum_words, data_words, encode, encode_all}
use Rattle.core_term.specs.Decode.{pure, after, ◌>>=◌, data_by, datum_from, datum_at, terms_by, term_from, term_at}
use Rattle.core_term.specs.Every.{every, every_term, every_datum, every_data, proper}

module _ {A B : Type 0} (m : Read A) (f : A → Read B) where
  step : (ws : List ℕ) (a : A) (left : List ℕ) → m ws ≡ got a left → ◌>>=◌ m f ws ≡ f a left
  unfolding ◌>>=◌ after
  step ws a left h = rw h

module _ (gas : ℕ) (x : Node) (r : List ℕ) (h : is_node x ≡ true) where
  datum-node : datum_at (suc gas) (node_words x ++ r) ≡ datum_from (datum_at gas) x r
  unfolding datum_at
  datum-node = step node_at (datum_from (datum_at gas)) (node_words x ++ r) x r (node-round x r h)

  term-node : term_at (suc gas) (node_words x ++ r) ≡ term_from (datum_at gas) (term_at gas) x r
  unfolding term_at
  term-node = step node_at (term_from (datum_at gas) (term_at gas)) (node_words x ++ r) x r (node-round x r h)

mutual
  unfolding every_datum proper datum_words datum_from pure data_by D.count

  datum-round : (d : Datum) (gas b : ℕ) (r : List ℕ) → every_datum proper tt b d ≡ true → length (datum_words d) ≤ gas → datum_at gas (datum_words d ++ r) ≡ got d r
  datum-round (constant_d a) zero b r p h = absurd (omega (arith, node-some (constant_n a)))
  datum-round (constant_d a) (suc gas) b r p h = datum-node gas (constant_n a) r p
  datum-round (name_d n) zero b r p h = absurd (omega (arith, node-some (name_n n)))
  datum-round (name_d n) (suc gas) b r p h = datum-node gas (name_n n) r p
  datum-round (list_d ds) zero b r p h =
      absurd (omega (arith, node-some (list_n (D.count ds)), length-append (node_words (list_n (D.count ds))) (data_words ds)))
  datum-round (list_d ds) (suc gas) b r p h =
      let x = list_n (D.count ds) in
      let q = both (is_node x) (every_data proper tt b ds) p in
      let l : length (data_words ds) ≤ gas = omega (arith, node-some x, length-append (node_words x) (data_words ds)) in
      rw (append_assoc (node_words x) (data_words ds) r)
      (datum-node gas x (data_words ds ++ r) q.0
      ∙ step (data_by (datum_at gas) (D.count ds)) _ _ ds r (data-round ds gas b r q.1 l))

  data-round : (ds : Data) (gas b : ℕ) (r : List ℕ) → every_data proper tt b ds ≡ true → length (data_words ds) ≤ gas → data_by (datum_at gas) (D.count ds) (data_words ds ++ r) ≡ got ds r
  data-round none_d gas b r p h = refl
  data-round (more_d d ds) gas b r p h =
      let q = both (every_datum proper tt b d) (every_data proper tt b ds) p in
      let l : length (datum_words d) + length (data_words ds) ≤ gas = omega (arith, length-append (datum_words d) (data_words ds)) in
      rw (append_assoc (datum_words d) (data_words ds) r)
      (step (datum_at gas) _ _ d (data_words ds ++ r) (datum-round d gas b (data_words ds ++ r) q.0 (omega arith))
      ∙ step (data_by (datum_at gas) (D.count ds)) _ _ ds r (data-round ds gas b r q.1 (omega arith)))

mutual
  unfolding every every_datum proper encode datum_words term_from terms_by pure count

  pub term-round : (t : Plain) (gas b : ℕ) (r : List ℕ) → every proper tt b t ≡ true → length (encode t) ≤ gas → term_at gas (encode t ++ r) ≡ got t r
  term-round (variable_c n) zero b r p h = absurd (omega (arith, node-some (variable_n n)))
  term-round (variable_c n) (suc gas) b r p h = term-node gas (variable_n n) r p
  term-round (operation_c n) zero b r p h = absurd (omega (arith, node-some (operation_n n)))
  term-round (operation_c n) (suc gas) b r p h = term-node gas (operation_n n) r p
  term-round (datum_c (constant_d a)) zero b r p h = absurd (omega (arith, node-some (constant_n a)))
  term-round (datum_c (constant_d a)) (suc gas) b r p h = term-node gas (constant_n a) r p
  term-round (datum_c (name_d n)) zero b r p h = absurd (omega (arith, node-some (name_n n)))
  term-round (datum_c (name_d n)) (suc gas) b r p h = term-node gas (name_n n) r p
  term-round (datum_c (list_d ds)) zero b r p h =
      absurd (omega (arith, node-some (list_n (D.count ds)), length-append (node_words (list_n (D.count ds))) (data_words ds)))
  term-round (datum_c (list_d ds)) (suc gas) b r p h =
      let x = list_n (D.count ds) in
      let q = both (is_node x) (every_data proper tt b ds) p in
      let l : length (data_words ds) ≤ gas = omega (arith, node-some x, length-append (node_words x) (data_words ds)) in
      rw (append_assoc (node_words x) (data_words ds) r)
      (term-node gas x (data_words ds ++ r) q.0
      ∙ step (data_by (datum_at gas) (D.count ds)) _ _ ds r (data-round ds gas b r q.1 l))
  term-round (if_c x y z) zero b r p h = absurd (omega (arith, node-some if_n, length-append (node_words if_n) (encode x ++ (encode y ++ encode z))))
  term-round (if_c x y z) (suc gas) b r p h =
      let q = both (is_node if_n) _ p in
      let qx = both (every proper tt b x) _ q.1 in
      let qy = both (every proper tt (b + variables x) y) _ qx.1 in
      let l : length (encode x) + (length (encode y) + length (encode z)) ≤ gas =
      omega (arith, node-some if_n, length-append (node_words if_n) (encode x ++ (encode y ++ encode z)), length-append (encode x) (encode y ++ encode z), length-append (encode y) (encode z)) in
      simp append_assoc
      (term-node gas if_n (encode x ++ (encode y ++ (encode z ++ r))) q.0
      ∙ step (term_at gas) _ _ x (encode y ++ (encode z ++ r)) (term-round x gas b (encode y ++ (encode z ++ r)) qx.0 (omega arith))
      ∙ step (term_at gas) _ _ y (encode z ++ r) (term-round y gas (b + variables x) (encode z ++ r) qy.0 (omega arith))
      ∙ step (term_at gas) _ _ z r (term-round z gas (b + variables x + variables y) r qy.1 (omega arith)))
  term-round (lambda_c first names body) zero b r p h =
      absurd (omega (arith, node-some (lambda_n first names), length-append (node_words (lambda_n first names)) (encode body)))
  term-round (lambda_c first names body) (suc gas) b r p h =
      let x = lambda_n first names in
      let q = both (is_node x) _ p in
      let l : length (encode body) ≤ gas = omega (arith, node-some x, length-append (node_words x) (encode body)) in
      rw (append_assoc (node_words x) (encode body) r)
      (term-node gas x (encode body ++ r) q.0
      ∙ step (term_at gas) _ _ body r (term-round body gas (b + length names) r q.1 l))
  term-round (application_c f ts) zero b r p h =
      absurd (omega (arith, node-some (application_n (count ts)), length-append (node_words (application_n (count ts))) (encode f ++ encode_all ts)))
  term-round (application_c f ts) (suc gas) b r p h =
      let x = application_n (count ts) in
      let q = both (is_node x) _ p in
      let qf = both (every proper tt b f) _ q.1 in
      let l : length (encode f) + length (encode_all ts) ≤ gas = omega (arith, node-some x, length-append (node_words x) (encode f ++ encode_all ts), length-append (encode f) (encode_all ts)) in
      simp append_assoc
      (term-node gas x (encode f ++ (encode_all ts ++ r)) q.0
      ∙ step (term_at gas) _ _ f (encode_all ts ++ r) (term-round f gas b (encode_all ts ++ r) qf.0 (omega arith))
      ∙ step (terms_by (term_at gas) (count ts)) _ _ ts r (terms-round ts gas (b + variables f) r qf.1 (omega arith)))

  pub terms-round : (ts : Plains) (gas b : ℕ) (r : List ℕ) → every_term proper tt b ts ≡ true → length (encode_all ts) ≤ gas → terms_by (term_at gas) (count ts) (encode_all ts ++ r) ≡ got ts r
  terms-round none_c gas b r p h = refl
  terms-round (more_c t ts) gas b r p h =
      let q = both (every proper tt b t) _ p in
      let l : length (encode t) + length (encode_all ts) ≤ gas = omega (arith, length-append (encode t) (encode_all ts)) in
      rw (append_assoc (encode t) (encode_all ts) r)
      (step (term_at gas) _ _ t (encode_all ts ++ r) (term-round t gas b (encode_all ts ++ r) q.0 (omega arith))
      ∙ step (terms_by (term_at gas) (count ts)) _ _ ts r (terms-round ts gas (b + variables t) r q.1 (omega arith)))
