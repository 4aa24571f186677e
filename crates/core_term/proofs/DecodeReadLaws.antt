-- decode, then encode: a term that is read from words is well-formed, and they begin with its words.
use Rattle.std.specs.Prelude.{◌≡◌, length}
use Rattle.std.proofs.Math.Path.{refl, sym, ap}
use Rattle.std.proofs.Common.{subst, ◌∙◌, arith}
use Rattle.std.proofs.Math.Bool.{true}
use mathlib.Core.List.{List, ◌++◌, append_assoc}
use Prim.Native.Nat.{ℕ, zero, suc, ◌+◌}
use Rattle.datum.specs.Datum.{Datum, constant_d, name_d, list_d, Data, none_d, more_d}
use Rattle.datum.specs.Datum as D
use Rattle.core_term.specs.Node.{Node, Got, got, missing, Read, nothing, is_node, node_words, node_at, variable_n, operation_n, constant_n, name_n, list_n, if_n, lambda_n, application_n}
use Rattle.core_term.specs.NodeLaws.{NodeRead, node-read}
use Rattle.core_term.specs.Term.{variable_c, operation_c, datum_c, if_c, lambda_c, application_c, none_c, more_c, Plain, Plains, count, variables}
use Rattle.core_term.specs.Words.{datum_words, data_words, encode, encode_all}
use Rattle.core_term.specs.Decode.{pure, after, ◌>>=◌, data_by, datum_from, datum_at, terms_by, term_from, term_at}
use Rattle.core_term.specs.Every.{every, every_term, every_datum, every_data, proper}
use Rattle.core_term.specs.DecodeRead.{TermRead}

-- what was read before, and what after
record Steps {A B : Type 0} (m : Read A) (f : A → Read B) (ws : List ℕ) (b : B) (r : List ℕ) : Type 0 where
  it : A
  left : List ℕ
  first : m ws ≡ got it left
  then : f it left ≡ got b r

no-got : {A X : Type 0} (a : A) (r : List ℕ) → missing ≡ got a r → X
no-got a r h = let z : ◌≡◌ {A = ℕ} 0 1 = cc in absurd (omega arith)

steps : {A B : Type 0} (m : Read A) (f : A → Read B) (ws : List ℕ) (b : B) (r : List ℕ) → ◌>>=◌ m f ws ≡ got b r → Steps m f ws b r
unfolding ◌>>=◌ after
steps {A} {B} m f ws b r h = go (m ws) refl h
  where
    go : (g : Got A) → m ws ≡ g → after g f ≡ got b r → Steps m f ws b r
    go (got a left) e k = record { it = a; left = left; first = e; then = k }
    go missing e k = no-got b r k

-- words begin with a datum's, a row of data's, a term's or a row of terms', all nodes of which are nodes
record DatumRead (ws : List ℕ) (d : Datum) (r : List ℕ) : Type 0 where
  words : ws ≡ datum_words d ++ r
  fine : (b : ℕ) → every_datum proper tt b d ≡ true

record DataRead (n : ℕ) (ws : List ℕ) (ds : Data) (r : List ℕ) : Type 0 where
  many : D.count ds ≡ n
  words : ws ≡ data_words ds ++ r
  fine : (b : ℕ) → every_data proper tt b ds ≡ true

record TermsRead (n : ℕ) (ws : List ℕ) (ts : Plains) (r : List ℕ) : Type 0 where
  many : count ts ≡ n
  words : ws ≡ encode_all ts ++ r
  fine : (b : ℕ) → every_term proper tt b ts ≡ true

pure-read : {A : Type 0} (P : A → List ℕ → Type 0) (a : A) (left : List ℕ) (c : A) (r : List ℕ) → P a left → pure a left ≡ got c r → P c r
unfolding pure
pure-read P a left c r p h =
    let e : a ≡ c = cc in
    let g : left ≡ r = cc in
    subst (λ (z : List ℕ). P c z) g (subst (λ (z : _). P z left) e p)

module _ (one : Read Datum) (sound : (ws : List ℕ) (d : Datum) (r : List ℕ) → one ws ≡ got d r → DatumRead ws d r) where
  data-read : (n : ℕ) (ws : List ℕ) (ds : Data) (r : List ℕ) → data_by one n ws ≡ got ds r → DataRead n ws ds r
  unfolding data_by D.count data_words every_data
  data-read zero ws ds r h = pure-read (DataRead 0 ws) none_d ws ds r (record { many = refl; words = refl; fine = λ b. refl }) h
  data-read (suc n) ws ds r h =
      let s = steps one _ ws ds r h in
      let d = sound ws s.it s.left s.first in
      let u = steps (data_by one n) _ s.left ds r s.then in
      let k = data-read n s.left u.it u.left u.first in
      pure-read (DataRead (suc n) ws) (more_d s.it u.it) u.left ds r
      (record {
        many = ap suc k.many;
        words = d.words ∙ ap (λ (z : List ℕ). datum_words s.it ++ z) k.words ∙ sym (append_assoc (datum_words s.it) (data_words u.it) u.left);
        fine = λ b. rw (d.fine b, k.fine b);
      })
      u.then

  -- a quoted list, after its node
  list_read : (n : ℕ) (ws left : List ℕ) (ds : Data) (r : List ℕ) → NodeRead ws (list_n n) left → DataRead n left ds r → DatumRead ws (list_d ds) r
  unfolding datum_words every_datum proper
  list_read n ws left ds r x k =
      let e : ws ≡ node_words (list_n (D.count ds)) ++ (data_words ds ++ r) = rw k.many (x.words ∙ ap (λ (z : List ℕ). node_words (list_n n) ++ z) k.words) in
      let p : is_node (list_n (D.count ds)) ≡ true = rw k.many x.proper in
      record { words = e ∙ sym (append_assoc (node_words (list_n (D.count ds))) (data_words ds) r); fine = λ b. rw (p, k.fine b) }

  datum-from : (x : Node) (ws left : List ℕ) (d : Datum) (r : List ℕ) → NodeRead ws x left → datum_from one x left ≡ got d r → DatumRead ws d r
  unfolding datum_from nothing datum_words every_datum proper
  datum-from (variable_n n) ws left d r x h = no-got d r h
  datum-from (operation_n n) ws left d r x h = no-got d r h
  datum-from (constant_n a) ws left d r x h = pure-read (DatumRead ws) (constant_d a) left d r (record { words = x.words; fine = λ b. x.proper }) h
  datum-from (name_n n) ws left d r x h = pure-read (DatumRead ws) (name_d n) left d r (record { words = x.words; fine = λ b. x.proper }) h
  datum-from (list_n n) ws left d r x h =
      let s = steps (data_by one n) _ left d r h in
      let k = data-read n left s.it s.left s.first in
      pure-read (DatumRead ws) (list_d s.it) s.left d r (list_read n ws left s.it s.left x k) s.then
  datum-from if_n ws left d r x h = no-got d r h
  datum-from (lambda_n first names) ws left d r x h = no-got d r h
  datum-from (application_n n) ws left d r x h = no-got d r h

datum-read : (gas : ℕ) (ws : List ℕ) (d : Datum) (r : List ℕ) → datum_at gas ws ≡ got d r → DatumRead ws d r
unfolding datum_at nothing
datum-read zero ws d r h = no-got d r h
datum-read (suc gas) ws d r h =
    let s = steps node_at _ ws d r h in
    datum-from (datum_at gas) (datum-read gas) s.it ws s.left d r (node-read ws s.it s.left s.first) s.then

-- a term, after its node
if-read : (ws l m n : List ℕ) (x y z : Plain) (r : List ℕ) → NodeRead ws if_n l → TermRead l x m → TermRead m y n → TermRead n z r → TermRead ws (if_c x y z) r
unfolding encode every proper
if-read ws l m n x y z r k a b c =
    record {
      words = k.words ∙ rw (a.words, b.words, c.words) (sym (simp append_assoc));
      fine = λ v. rw (k.proper, a.fine v, b.fine (v + variables x), c.fine (v + variables x + variables y));
    }

lambda-read : (first : ℕ) (names ws l : List ℕ) (body : Plain) (r : List ℕ) → NodeRead ws (lambda_n first names) l → TermRead l body r → TermRead ws (lambda_c first names body) r
unfolding encode every proper
lambda-read first names ws l body r k a =
    record {
      words = k.words ∙ rw a.words (sym (append_assoc (node_words (lambda_n first names)) (encode body) r));
      fine = λ b. rw (k.proper, a.fine (b + length names));
    }

application-read : (n : ℕ) (ws l m : List ℕ) (f : Plain) (ts : Plains) (r : List ℕ) → NodeRead ws (application_n n) l → TermRead l f m → TermsRead n m ts r → TermRead ws (application_c f ts) r
unfolding encode every proper
application-read n ws l m f ts r k a b =
    record {
      words = rw b.many (k.words ∙ rw (a.words, b.words) (sym (simp append_assoc)));
      fine = λ v. rw (b.many, k.proper, a.fine v, b.fine (v + variables f));
    }

module _ (one : Read Plain) (sound : (ws : List ℕ) (t : Plain) (r : List ℕ) → one ws ≡ got t r → TermRead ws t r) where
  terms-read : (n : ℕ) (ws : List ℕ) (ts : Plains) (r : List ℕ) → terms_by one n ws ≡ got ts r → TermsRead n ws ts r
  unfolding terms_by count encode_all every_term
  terms-read zero ws ts r h = pure-read (TermsRead 0 ws) none_c ws ts r (record { many = refl; words = refl; fine = λ b. refl }) h
  terms-read (suc n) ws ts r h =
      let s = steps one _ ws ts r h in
      let t = sound ws s.it s.left s.first in
      let u = steps (terms_by one n) _ s.left ts r s.then in
      let k = terms-read n s.left u.it u.left u.first in
      pure-read (TermsRead (suc n) ws) (more_c s.it u.it) u.left ts r
      (record {
        many = ap suc k.many;
        words = t.words ∙ ap (λ (z : List ℕ). encode s.it ++ z) k.words ∙ sym (append_assoc (encode s.it) (encode_all u.it) u.left);
        fine = λ b. rw (t.fine b, k.fine (b + variables s.it));
      })
      u.then

  module _ (datum : Read Datum) (datum-sound : (ws : List ℕ) (d : Datum) (r : List ℕ) → datum ws ≡ got d r → DatumRead ws d r) where
    term-from : (x : Node) (ws left : List ℕ) (t : Plain) (r : List ℕ) → NodeRead ws x left → term_from datum one x left ≡ got t r → TermRead ws t r
    unfolding term_from encode datum_words every every_datum proper
    term-from (variable_n n) ws left t r x h = pure-read (TermRead ws) (variable_c n) left t r (record { words = x.words; fine = λ b. x.proper }) h
    term-from (operation_n n) ws left t r x h = pure-read (TermRead ws) (operation_c n) left t r (record { words = x.words; fine = λ b. x.proper }) h
    term-from (constant_n a) ws left t r x h = pure-read (TermRead ws) (datum_c (constant_d a)) left t r (record { words = x.words; fine = λ b. x.proper }) h
    term-from (name_n n) ws left t r x h = pure-read (TermRead ws) (datum_c (name_d n)) left t r (record { words = x.words; fine = λ b. x.proper }) h
    term-from (list_n n) ws left t r x h =
        let s = steps (data_by datum n) _ left t r h in
        let k = list_read datum datum-sound n ws left s.it s.left x (data-read datum datum-sound n left s.it s.left s.first) in
        pure-read (TermRead ws) (datum_c (list_d s.it)) s.left t r (record { words = k.words; fine = k.fine }) s.then
    term-from if_n ws left t r x h =
        let s = steps one _ left t r h in
        let a = sound left s.it s.left s.first in
        let u = steps one _ s.left t r s.then in
        let b = sound s.left u.it u.left u.first in
        let v = steps one _ u.left t r u.then in
        let c = sound u.left v.it v.left v.first in
        pure-read (TermRead ws) (if_c s.it u.it v.it) v.left t r
        (if-read ws left s.left u.left s.it u.it v.it v.left x a b c)
        v.then
    term-from (lambda_n first names) ws left t r x h =
        let s = steps one _ left t r h in
        let a = sound left s.it s.left s.first in
        pure-read (TermRead ws) (lambda_c first names s.it) s.left t r
        (lambda-read first names ws left s.it s.left x a)
        s.then
    term-from (application_n n) ws left t r x h =
        let s = steps one _ left t r h in
        let a = sound left s.it s.left s.first in
        let u = steps (terms_by one n) _ s.left t r s.then in
        let k = terms-read n s.left u.it u.left u.first in
        pure-read (TermRead ws) (application_c s.it u.it) u.left t r
        (application-read n ws left s.left s.it u.it u.left x a k)
        u.then

pub term-read : (gas : ℕ) (ws : List ℕ) (t : Plain) (r : List ℕ) → term_at gas ws ≡ got t r → TermRead ws t r
unfolding term_at nothing
term-read zero ws t r h = no-got t r h
term-read (suc gas) ws t r h =
    let s = steps node_at _ ws t r h in
    term-from (term_at gas) (term-read gas) (datum_at gas) (datum-read gas) s.it ws s.left t r (node-read ws s.it s.left s.first) s.then
