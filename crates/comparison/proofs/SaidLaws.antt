-- The grammar is what writing writes: our term rendered, written as an element, and that element as text, is the writer's text of our term
-- with other words for variables and operations.
use Rattle.std.specs.Prelude.{◌≡◌, length}
use Rattle.std.proofs.Math.Path.{refl, ap}
use Rattle.std.proofs.Common.{ap₂}
use mathlib.Core.List.{List, [], ◌∷◌, map}
use Prim.Native.Nat.{ℕ, zero, suc}
use Rattle.words.specs.Text.{bytes}
use Rattle.datum.specs.Datum.{Datum, constant_d, name_d, list_d, Data, none_d, more_d}
use Rattle.core_term.specs.Term.{variable_c, operation_c, datum_c, if_c, lambda_c, application_c, none_c, more_c, Plain, Plains}
use Rattle.core_term.specs.Text.{parenthesized, operation_text, bare, bares, outermost, variable_text, formal_texts, text_in, texts_in}
use Rattle.comparison.specs.Binders.{numbers}
use Rattle.comparison.specs.Rendering.{Choice, render_datum, render_data, render, render_all}
use Rattle.comparison.specs.Written.{quotation, name_data, written, written_all}
use Rattle.comparison.specs.Said.{said, said_all}

-- ---- writing's text is the case of v0.t and o0

module _ (spell : ℕ → List ℕ) (called : List ℕ) where
  formals-said : (v n : ℕ) → formal_texts spell called v n ≡ map (variable_text spell called) (numbers v n)
  unfolding formal_texts numbers
  formals-said v zero = refl
  formals-said v (suc n) = ap (◌∷◌ (variable_text spell called v)) (formals-said (suc v) n)

  mutual
    unfolding text_in said

    pub text-said : (t : Plain) → text_in spell called t ≡ said spell (variable_text spell called) operation_text t
    text-said (variable_c n) = refl
    text-said (operation_c n) = refl
    text-said (datum_c d) = refl
    text-said (if_c x y z) = rw (text-said x, text-said y, text-said z)
    text-said (lambda_c v fs x) = rw (formals-said v (length fs), text-said x)
    text-said (application_c h ts) = rw (text-said h, texts-said ts)

    texts-said : (ts : Plains) → texts_in spell called ts ≡ said_all spell (variable_text spell called) operation_text ts
    texts-said none_c = refl
    texts-said (more_c t ts) = ap₂ ◌∷◌ (text-said t) (texts-said ts)

-- ---- and a rendering is the case of the supplier's words

module _ (c : Choice) (theirs ours : ℕ → List ℕ) (quote-is : theirs 0 ≡ bytes "quote") (if-is : theirs 1 ≡ bytes "if") (lambda-is : theirs 2 ≡ bytes "lambda")
    (spelled : (n : ℕ) → theirs (c.quoted n) ≡ ours n) where
  mutual
    unfolding bare render_datum

    bare-said : (d : Datum) → bare theirs (render_datum c d) ≡ bare ours d
    bare-said (constant_d a) = refl
    bare-said (name_d n) = spelled n
    bare-said (list_d ds) = ap parenthesized (bares-said ds)

    bares-said : (ds : Data) → bares theirs (render_data c ds) ≡ bares ours ds
    bares-said none_d = refl
    bares-said (more_d d ds) = ap₂ ◌∷◌ (bare-said d) (bares-said ds)

  quoted-said : (d : Datum) → bare theirs (quotation (render_datum c d)) ≡ outermost ours d
  unfolding bare render_datum quotation outermost
  quoted-said (constant_d a) = refl
  quoted-said (name_d n) = rw (quote-is, spelled n)
  quoted-said (list_d ds) = rw (quote-is, bares-said ds)

  names-said : (ns : List ℕ) → bares theirs (name_data (map c.called ns)) ≡ map (λ v. theirs (c.called v)) ns
  unfolding bare name_data
  names-said [] = refl
  names-said (n ∷ ns) = ap (◌∷◌ (theirs (c.called n))) (names-said ns)

  mutual
    unfolding bare written render said

    pub written-said : (t : Plain) → bare theirs (written (render c t)) ≡ said ours (λ v. theirs (c.called v)) (λ p. theirs (c.operation p)) t
    written-said (variable_c v) = refl
    written-said (operation_c p) = refl
    written-said (datum_c d) = quoted-said d
    written-said (if_c x y z) = rw (if-is, written-said x, written-said y, written-said z)
    written-said (lambda_c v fs x) = rw (lambda-is, names-said (numbers v (length fs)), written-said x)
    written-said (application_c h ts) = rw (written-said h, all_said ts)

    all_said : (ts : Plains) → bares theirs (written_all (render_all c ts)) ≡ said_all ours (λ v. theirs (c.called v)) (λ p. theirs (c.operation p)) ts
    all_said none_c = refl
    all_said (more_c t ts) = ap₂ ◌∷◌ (written-said t) (all_said ts)
