-- Sound terms: every node is one and passes all of ground 19, in one test that follows expansion. The words of a sound term are read back
-- as that term, and pass.
use Rattle.std.specs.Prelude.{◌≡◌, Bool, ◌&&◌, List, ℕ, ◌+◌, ◌≤◌, ◌<◌, eqb, leb, length}
use Rattle.std.proofs.Math.Path.{refl, ap, subst}
use Rattle.std.proofs.Common.{◌∙◌, arith}
use Rattle.std.proofs.Math.Bool.{true}
use Rattle.std.proofs.Math.Option.{some}
use borrow.Author.Tests.{le-leb, lt-ltb, ltb-true, eq-eqb}
use Rattle.words.specs.Limits.{formals_most, operations_most}
use Rattle.words.specs.Lists.{all_of}
use Rattle.words.specs.TestLaws.{and_parts, and_both}
use Rattle.datum.specs.Constant.{Constant, is_constant}
use Rattle.recipe.specs.Tree.{Tree, strip, strip_tail}
use Rattle.recipe.specs.Tidy.{tidy_empty, tidy_constant, tidy_name, tidy_pair}
use Rattle.core_term.specs.Node.{is_node, variable_n, operation_n, constant_n, name_n, list_n, if_n, lambda_n, application_n, Node}
use Rattle.core_term.specs.Term.{Plain, variables}
use Rattle.core_term.specs.Every.{Asked, every_datum, every_data, every, proper, well_formed}
use Rattle.core_term.specs.Check.{Scope, inside, variable_inside, first_number, known, outside, asked, scoped, numbered, all_known, passes, term_of}
use Rattle.core_term.specs.Words.{encode}
use Rattle.core_term.specs.EveryLaws.{every-from}
use Rattle.core_term.proofs.OfCode.CheckLaws.{term_of-encode}
use Rattle.expansion.specs.CoreTerm.Worlds.{World, FineTree}
use Rattle.expansion.specs.CoreTerm.SoundTerms.{sound}

-- ---- what is asked of every node: that it is one, and all of ground 19

module _ (operations : ℕ) (good : ℕ → Bool) (e : Scope) (b : ℕ) where
  pub variable-sound : (n : ℕ) → e n ≡ true → (sound operations good).test e b (variable_n n) ≡ true
  unfolding sound is_node variable_inside first_number known
  variable-sound n h = and_both (e n) true h refl

  pub operation-sound : (p : ℕ) → p < operations → (sound operations good).test e b (operation_n p) ≡ true
  unfolding sound is_node variable_inside first_number known
  operation-sound p h = lt-ltb p operations h

  pub constant-sound : (a : Constant) → is_constant a ≡ true → (sound operations good).test e b (constant_n a) ≡ true
  unfolding sound is_node variable_inside first_number known
  constant-sound a c = and_both (is_constant a) true c refl

  name-sound : (n : ℕ) → good n ≡ true → (sound operations good).test e b (name_n n) ≡ true
  unfolding sound is_node variable_inside first_number known
  name-sound n h = h

  pub lambda-sound : (names : List ℕ) → length names ≤ formals_most → all_of good names ≡ true → (sound operations good).test e b (lambda_n b names) ≡ true
  unfolding sound is_node variable_inside first_number known
  lambda-sound names h g = and_both (leb (length names) formals_most) _ (le-leb (length names) formals_most h) (and_both (eqb b b) _ (eq-eqb b b refl) g)

module _ (operations : ℕ) (W : World) (e : Scope) (b : ℕ) where
  mutual
    unfolding every_datum sound is_node inside variable_inside first_number known strip

    pub strip-sound : {t : Tree} → FineTree W t → every_datum (sound operations W.names) e b (strip t) ≡ true
    strip-sound tidy_empty = refl
    strip-sound (tidy_constant {a} c) = constant-sound operations W.names e b a c
    strip-sound (tidy_name {x} f) = name-sound operations W.names e b x.number f.number
    strip-sound (tidy_pair h t l) = and_both _ _ (strip-sound h) (tail-sound t)

    tail-sound : {t : Tree} → FineTree W t → every_data (sound operations W.names) e b (strip_tail t) ≡ true
    tail-sound tidy_empty = refl
    tail-sound (tidy_constant c) = refl
    tail-sound (tidy_name f) = refl
    tail-sound (tidy_pair h t l) = and_both _ _ (strip-sound h) (tail-sound t)

-- ---- sound terms pass

module _ (operations : ℕ) (good : ℕ → Bool) (e : Scope) (b : ℕ) (x : Node) (h : (sound operations good).test e b x ≡ true) where
  sound-parts : (is_node x ≡ true) × (variable_inside e b x ≡ true) × (first_number e b x ≡ true) × (known operations good e b x ≡ true)
  unfolding sound
  sound-parts =
      let p = and_parts (is_node x) _ h in
      let q = and_parts (variable_inside e b x) _ p.1 in
      let r = and_parts (first_number e b x) _ q.1 in
      (p.0, q.0, r.0, r.1)

known_more : (operations more : ℕ) (good : ℕ → Bool) → operations ≤ more → (e : Scope) (b : ℕ) (x : Node) → known operations good e b x ≡ true → known more good e b x ≡ true
unfolding known
known_more operations more good l e b (variable_n n) h = refl
known_more operations more good l e b (operation_n n) h = lt-ltb n more (omega (arith, l, ltb-true n operations h))
known_more operations more good l e b (constant_n a) h = refl
known_more operations more good l e b (name_n n) h = h
known_more operations more good l e b (list_n n) h = refl
known_more operations more good l e b if_n h = refl
known_more operations more good l e b (lambda_n first names) h = h
known_more operations more good l e b (application_n n) h = refl

module _ (operations : ℕ) (good : ℕ → Bool) (t : Plain) (h : every (sound operations good) outside 0 t ≡ true) where
  -- a weaker test, of an environment that f makes of the scope
  sound-implies : {E : Type 0} (B : Asked E) (f : Scope → E) → ((e : Scope) (b : ℕ) (x : Node) → (sound operations good).test e b x ≡ true → B.test (f e) b x ≡ true)
      → ((e : Scope) (b : ℕ) (x : Node) → f (inside e b x) ≡ B.enter (f e) b x) → every B (f outside) 0 t ≡ true
  unfolding sound
  sound-implies B f test enter =
      every-from (λ (i : Unit {0}). sound operations good) B (0 + variables t) (λ e g b. f (e tt) ≡ g)
      (λ e g b x r l k. subst (λ z. B.test z b x ≡ true) r (test (e tt) b x (k tt)))
      (λ e g b x r k. enter (e tt) b x ∙ ap (λ z. B.enter z b x) r)
      (λ e g b n r. r) t (λ i. outside) (f outside) 0 refl (omega arith) (λ i. h)

  sound-well_formed : well_formed t ≡ true
  unfolding well_formed proper
  sound-well_formed = sound-implies proper (λ e. tt) (λ e b x p. (sound-parts operations good e b x p).0) (λ e b x. refl)

  -- a test of ground 19
  sound-asked : (test : Scope → ℕ → Node → Bool) → ((e : Scope) (b : ℕ) (x : Node) → (sound operations good).test e b x ≡ true → test e b x ≡ true) → every (asked test) outside 0 t ≡ true
  unfolding asked
  sound-asked test k = sound-implies (asked test) (λ e. e) k (λ e b x. refl)

  -- with as many operations, or more
  module _ (more : ℕ) (l : operations ≤ more) where
    sound-passes : passes more good t ≡ true
    unfolding passes scoped numbered all_known
    sound-passes =
        and_both _ _ (sound-asked variable_inside (λ e b x p. (sound-parts operations good e b x p).1))
        (and_both _ _ (sound-asked first_number (λ e b x p. (sound-parts operations good e b x p).2))
        (sound-asked (known more good) (λ e b x p. known_more operations more good l e b x (sound-parts operations good e b x p).3)))

    pub sound-term_of : more ≤ operations_most → term_of more good (encode t) ≡ some t
    sound-term_of m = term_of-encode more good t m sound-well_formed sound-passes
