-- Laws of a term's node and parts: its words, its variables, and a test of every node, by them.
use Rattle.std.specs.Prelude.{◌≡◌, Bool, true, ◌&&◌, List, ◌++◌, ℕ, suc, ◌+◌, ◌≤◌, length}
use Rattle.std.proofs.Math.Path.{refl, sym}
use Rattle.std.proofs.Common.{ap, ◌∙◌, append-nil, arith, add-zero, length-append}
use Rattle.std.proofs.Math.Bool.{and-true}
use Rattle.std.proofs.lemmas.Bool.{false≢true}
use Rattle.datum.specs.ConstantLaws.{words-few}
use Rattle.datum.specs.Datum.{constant_d, name_d, list_d, Data, none_d, more_d}
use Rattle.datum.specs.Datum as D
use Rattle.core_term.specs.Node.{Node, node_words, parts, binds, is_datum_node, is_list_node, variable_n, operation_n, constant_n, name_n, list_n, if_n, lambda_n, application_n}
use Rattle.core_term.specs.Term.{variable_c, operation_c, datum_c, if_c, lambda_c, application_c, none_c, more_c, count, variables, variables_all, Plain, Plains}
use Rattle.core_term.specs.Words.{datum_words, data_words, encode, encode_all}
use Rattle.core_term.specs.Every.{Asked, every, every_term, every_datum, every_data}
use Rattle.core_term.specs.NodeLaws.{both}
use Rattle.core_term.specs.Parts.{datum_node, node, quoted, datum_parts, parts_of, is_datum, are_data}

-- ---- words

encode-quoted : (ds : Data) → encode_all (quoted ds) ≡ data_words ds
unfolding encode quoted datum_words
encode-quoted none_d = refl
encode-quoted (more_d d ds) = rw (encode-quoted ds)

pub encode-parts : (t : Plain) → encode t ≡ node_words (node t) ++ encode_all (parts_of t)
unfolding encode node parts_of datum_words datum_node datum_parts
encode-parts (variable_c n) = sym (append-nil (node_words (variable_n n)))
encode-parts (operation_c n) = sym (append-nil (node_words (operation_n n)))
encode-parts (datum_c (constant_d a)) = sym (append-nil (node_words (constant_n a)))
encode-parts (datum_c (name_d n)) = sym (append-nil (node_words (name_n n)))
encode-parts (datum_c (list_d ds)) = ap (λ (z : List ℕ). node_words (list_n (D.count ds)) ++ z) (sym (encode-quoted ds))
encode-parts (if_c x y z) = rw (append-nil (encode z))
encode-parts (lambda_c first names body) = rw (append-nil (encode body))
encode-parts (application_c h ts) = refl

-- a term has at least two words
pub encode-two : (t : Plain) → 2 ≤ length (encode t)
unfolding encode datum_words node_words
encode-two (variable_c n) = omega arith
encode-two (operation_c n) = omega arith
encode-two (datum_c (constant_d a)) = omega (arith, (words-few a).0)
encode-two (datum_c (name_d n)) = omega arith
encode-two (datum_c (list_d ds)) = omega arith
encode-two (if_c x y z) = omega (arith, encode-two x, length-append (encode x) (encode y ++ encode z))
encode-two (lambda_c first names body) = omega arith
encode-two (application_c h ts) = omega arith

-- ---- counts

count-quoted : (ds : Data) → count (quoted ds) ≡ D.count ds
unfolding count quoted D.count
count-quoted none_d = refl
count-quoted (more_d d ds) = ap suc (count-quoted ds)

pub count-parts : (t : Plain) → count (parts_of t) ≡ parts (node t)
unfolding count node parts_of parts datum_node datum_parts
count-parts (variable_c n) = refl
count-parts (operation_c n) = refl
count-parts (datum_c (constant_d a)) = refl
count-parts (datum_c (name_d n)) = refl
count-parts (datum_c (list_d ds)) = count-quoted ds
count-parts (if_c x y z) = refl
count-parts (lambda_c first names body) = refl
count-parts (application_c h ts) = refl

variables-quoted : (ds : Data) → variables_all (quoted ds) ≡ 0
unfolding variables quoted
variables-quoted none_d = refl
variables-quoted (more_d d ds) = rw (variables-quoted ds)

pub variables-parts : (t : Plain) → variables t ≡ binds (node t) + variables_all (parts_of t)
unfolding variables node parts_of binds datum_node datum_parts
variables-parts (variable_c n) = refl
variables-parts (operation_c n) = refl
variables-parts (datum_c (constant_d a)) = refl
variables-parts (datum_c (name_d n)) = refl
variables-parts (datum_c (list_d ds)) = rw (variables-quoted ds)
variables-parts (if_c x y z) = omega arith
variables-parts (lambda_c first names body) = omega arith
variables-parts (application_c h ts) = omega arith

-- ---- data

quoted-data : (ds : Data) → are_data (quoted ds) ≡ true
unfolding are_data quoted is_datum node is_datum_node datum_node
quoted-data none_d = refl
quoted-data (more_d (constant_d a) ds) = quoted-data ds
quoted-data (more_d (name_d n) ds) = quoted-data ds
quoted-data (more_d (list_d es) ds) = quoted-data ds

pub list-data : (t : Plain) → is_list_node (node t) ≡ true → are_data (parts_of t) ≡ true
unfolding is_list_node node parts_of datum_node datum_parts
list-data (variable_c n) h = absurd (false≢true h)
list-data (operation_c n) h = absurd (false≢true h)
list-data (datum_c (constant_d a)) h = absurd (false≢true h)
list-data (datum_c (name_d n)) h = absurd (false≢true h)
list-data (datum_c (list_d ds)) h = quoted-data ds
list-data (if_c x y z) h = absurd (false≢true h)
list-data (lambda_c first names body) h = absurd (false≢true h)
list-data (application_c h ts) k = absurd (false≢true k)

-- ---- a test of every node

module _ {E : Type 0} (A : Asked E) where
  every-quoted : (e : E) (b : ℕ) (ds : Data) → every_term A e b (quoted ds) ≡ every_data A e b ds
  unfolding every every_datum quoted variables
  every-quoted e b none_d = refl
  every-quoted e b (more_d d ds) = rw (add-zero b) (ap (λ (z : Bool). every_datum A e b d && z) (every-quoted e b ds))

  pub every-parts : (e : E) (b : ℕ) (t : Plain) → every A e b t ≡ (A.test e b (node t) && every_term A (A.enter e b (node t)) (b + binds (node t)) (parts_of t))
  unfolding every every_datum node parts_of binds datum_node datum_parts
  every-parts e b (variable_c n) = sym (and-true _)
  every-parts e b (operation_c n) = sym (and-true _)
  every-parts e b (datum_c (constant_d a)) = sym (and-true _)
  every-parts e b (datum_c (name_d n)) = sym (and-true _)
  every-parts e b (datum_c (list_d ds)) = rw (add-zero b, every-quoted (A.enter e b (list_n (D.count ds))) b ds)
  every-parts e b (if_c x y z) = rw (add-zero b, and-true)
  every-parts e b (lambda_c first names body) = rw and-true
  every-parts e b (application_c h ts) = rw (add-zero b)

-- ---- a term of its node and parts

pub record Built (x : Node) (ts : Plains) : Type 0 where
  pub term : Plain
  pub is : node term ≡ x
  pub has : parts_of term ≡ ts

-- terms that are data
record Quoted (ts : Plains) : Type 0 where
  them : Data
  are : quoted them ≡ ts

unquoted : (ts : Plains) → are_data ts ≡ true → Quoted ts
unfolding are_data is_datum is_datum_node node quoted
unquoted none_c h = record { them = none_d; are = refl }
unquoted (more_c (variable_c n) ts) h = absurd (false≢true h)
unquoted (more_c (operation_c n) ts) h = absurd (false≢true h)
unquoted (more_c (datum_c d) ts) h =
    let k = unquoted ts (both (is_datum_node (datum_node d)) (are_data ts) h).1 in
    record { them = more_d d k.them; are = ap (more_c (datum_c d)) k.are }
unquoted (more_c (if_c x y z) ts) h = absurd (false≢true h)
unquoted (more_c (lambda_c first names body) ts) h = absurd (false≢true h)
unquoted (more_c (application_c f us) ts) h = absurd (false≢true h)

leaf-built : (t : Plain) (ts : Plains) → parts_of t ≡ none_c → count ts ≡ 0 → Built (node t) ts
unfolding count
leaf-built t none_c e h = record { term = t; is = refl; has = e }
leaf-built t (more_c u ts) e h = absurd (omega arith)

three-built : (ts : Plains) → count ts ≡ 3 → Built if_n ts
unfolding count node parts_of
three-built none_c h = absurd (omega arith)
three-built (more_c x none_c) h = absurd (omega arith)
three-built (more_c x (more_c y none_c)) h = absurd (omega arith)
three-built (more_c x (more_c y (more_c z none_c))) h = record { term = if_c x y z; is = refl; has = refl }
three-built (more_c x (more_c y (more_c z (more_c w ts)))) h = absurd (omega arith)

one-built : (first : ℕ) (names : List ℕ) (ts : Plains) → count ts ≡ 1 → Built (lambda_n first names) ts
unfolding count node parts_of
one-built first names none_c h = absurd (omega arith)
one-built first names (more_c body none_c) h = record { term = lambda_c first names body; is = refl; has = refl }
one-built first names (more_c body (more_c u ts)) h = absurd (omega arith)

more-built : (n : ℕ) (ts : Plains) → count ts ≡ suc n → Built (application_n n) ts
unfolding count node parts_of
more-built n none_c h = absurd (omega arith)
more-built n (more_c f ts) h = let e : count ts ≡ n = omega arith in record { term = application_c f ts; is = ap application_n e; has = refl }

list-built : (n : ℕ) (ts : Plains) → count ts ≡ n → are_data ts ≡ true → Built (list_n n) ts
unfolding node parts_of datum_node datum_parts
list-built n ts h d =
    let k = unquoted ts d in
    let e : D.count k.them ≡ n = sym (count-quoted k.them) ∙ ap count k.are ∙ h in
    record { term = datum_c (list_d k.them); is = ap list_n e; has = k.are }

pub built : (x : Node) (ts : Plains) → count ts ≡ parts x → (is_list_node x ≡ true → are_data ts ≡ true) → Built x ts
unfolding parts is_list_node node datum_node parts_of datum_parts
built (variable_n n) ts h d = leaf-built (variable_c n) ts refl h
built (operation_n n) ts h d = leaf-built (operation_c n) ts refl h
built (constant_n a) ts h d = leaf-built (datum_c (constant_d a)) ts refl h
built (name_n n) ts h d = leaf-built (datum_c (name_d n)) ts refl h
built (list_n n) ts h d = list-built n ts h (d refl)
built if_n ts h d = three-built ts h
built (lambda_n first names) ts h d = one-built first names ts h
built (application_n n) ts h d = more-built n ts h
