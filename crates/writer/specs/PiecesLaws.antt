-- A text is its pieces.
use Rattle.std.specs.Prelude.{◌≡◌, ℕ, zero, suc, ◌+◌, ◌-◌, Bool, true, false, List, [], ◌∷◌, ◌++◌, ◌≢◌, slice_index}
use Rattle.std.proofs.Math.Path.{refl, sym, ap}
use Rattle.std.proofs.Common.{ap, ◌∙◌, append_assoc, append-nil, arith, add-one, ne_eqb}
use Rattle.std.proofs.lemmas.Bool.{false≢true}
use Rattle.words.specs.Text.{bytes}
use Rattle.datum.specs.Constant.{boolean}
use Rattle.datum.specs.Datum.{Datum, constant_d, name_d, list_d, Data, none_d, more_d}
use Rattle.core_term.specs.Node.{is_datum_node, is_list_node, name_n, list_n}
use Rattle.core_term.specs.Term.{variable_c, operation_c, datum_c, if_c, lambda_c, application_c, none_c, more_c, Plain, Plains}
use Rattle.core_term.specs.Decimal.{decimal}
use Rattle.core_term.specs.Text.{variable_text, constant_text, spaced_after, spaced, parenthesized, formal_texts, bare, bares, outermost, texts_in}
use Rattle.core_term.specs.Text as Text
use Rattle.writer.specs.Called.{Said, spell_of}
use Rattle.core_term.specs.Parts.{datum_node, node, quoted, datum_parts, parts_of, is_datum}
use Rattle.writer.specs.Pieces.{gap_text, formals_text, closing, opening, within, text_in, parts_text}

-- ---- variables

module _ (said : Said) where
  abbrev spell : ℕ → List ℕ
  spell = spell_of said

  abbrev text_of : Plain → List ℕ
  text_of = Text.text_in spell said.called

  formals-after : (t : List ℕ) (first n : ℕ) → spaced_after t (formal_texts spell said.called first n) ≡ t ++ formals_text said true first n
  unfolding spaced_after formal_texts formals_text gap_text
  formals-after t first zero = sym (append-nil t)
  formals-after t first (suc n) =
      ap (λ (l : List ℕ). t ++ (32 ∷ l)) (formals-after (variable_text spell said.called first) (suc first) n)

  formals-spaced : (first n : ℕ) → spaced (formal_texts spell said.called first n) ≡ formals_text said false first n
  unfolding spaced formal_texts formals_text gap_text
  formals-spaced first zero = refl
  formals-spaced first (suc n) = formals-after _ (suc first) n

  -- ---- parts

  data-after : (t : List ℕ) (ds : Data) → spaced_after t (bares spell ds) ≡ t ++ parts_text said true true (quoted ds)
  unfolding spaced_after bare quoted parts_text text_in within gap_text
  data-after t none_d = sym (append-nil t)
  data-after t (more_d d ds) = rw (data-after (bare spell d) ds)

  data-spaced : (ds : Data) → spaced (bares spell ds) ≡ parts_text said true false (quoted ds)
  unfolding spaced bare quoted parts_text text_in within gap_text
  data-spaced none_d = refl
  data-spaced (more_d d ds) = data-after (bare spell d) ds

  terms-after : (t : List ℕ) (ts : Plains) → spaced_after t (texts_in spell said.called ts) ≡ t ++ parts_text said false true ts
  unfolding spaced_after Text.text_in parts_text text_in gap_text
  terms-after t none_c = sym (append-nil t)
  terms-after t (more_c u ts) = rw (terms-after (text_of u) ts)

  -- ---- lists

  list-cons : (t : List ℕ) (ts : List (List ℕ)) → parenthesized (t ∷ ts) ≡ 40 ∷ (spaced_after t ts ++ (41 ∷ []))
  unfolding parenthesized spaced
  list-cons t ts = refl

  list-data : (ds : Data) → parenthesized (bares spell ds) ≡ 40 ∷ (parts_text said true false (quoted ds) ++ (41 ∷ []))
  unfolding parenthesized
  list-data ds = rw (data-spaced ds)

  list-formals : (first n : ℕ) → parenthesized (formal_texts spell said.called first n) ≡ 40 ∷ (formals_text said false first n ++ (41 ∷ []))
  unfolding parenthesized
  list-formals first n = rw (formals-spaced first n)

  -- ---- a node, its parts, and its end

  abbrev Pieces : Bool → Plain → List ℕ
  Pieces inner t = opening said inner (node t) ++ (parts_text said (is_list_node (node t)) false (parts_of t) ++ closing inner (node t))

  text-pieces : (t : Plain) → text_of t ≡ Pieces false t
  unfolding Text.text_in outermost bare node datum_node parts_of datum_parts opening closing is_list_node spaced_after parts_text text_in gap_text bytes
  text-pieces (variable_c n) = sym (append-nil _)
  text-pieces (operation_c n) = sym (append-nil _)
  text-pieces (datum_c (constant_d a)) = sym (append-nil _)
  text-pieces (datum_c (name_d n)) = rw (list-cons, append-nil)
  text-pieces (datum_c (list_d ds)) = rw list-cons (ap (λ (z : List ℕ). 40 ∷ (spaced_after (bytes "quote") (z ∷ []) ++ (41 ∷ []))) (list-data ds) ∙ simp append_assoc)
  text-pieces (if_c x y z) = rw list-cons (simp (append_assoc, append-nil))
  text-pieces (lambda_c first names body) = rw (list-cons, list-formals) (simp (append_assoc, append-nil))
  text-pieces (application_c h ts) = rw (list-cons, terms-after (text_of h) ts)

  bare-pieces : (d : Datum) → bare spell d ≡ Pieces true (datum_c d)
  unfolding bare node datum_node parts_of datum_parts opening closing is_list_node bytes parts_text
  bare-pieces (constant_d a) = sym (append-nil _)
  bare-pieces (name_d n) = sym (append-nil _)
  bare-pieces (list_d ds) = list-data ds

  pub pieces : (inner : Bool) (t : Plain) → (inner ≡ true → is_datum t ≡ true) → text_in said inner t ≡ Pieces inner t
  unfolding text_in within is_datum is_datum_node node
  pieces false t h = text-pieces t
  pieces true (variable_c n) h = absurd (false≢true (h refl))
  pieces true (operation_c n) h = absurd (false≢true (h refl))
  pieces true (datum_c d) h = bare-pieces d
  pieces true (if_c x y z) h = absurd (false≢true (h refl))
  pieces true (lambda_c first names body) h = absurd (false≢true (h refl))
  pieces true (application_c f ts) h = absurd (false≢true (h refl))

-- ---- variables as code lays them

-- v0, a dot, its name
pub variable-text : (said : Said) (n : ℕ) → variable_text (spell_of said) said.called n ≡ (118 ∷ decimal n) ++ ((46 ∷ []) ++ spell_of said (slice_index said.called n))
unfolding variable_text
variable-text said n = refl

pub formals-none : (said : Said) (wanted : Bool) (first n : ℕ) → n ≡ 0 → formals_text said wanted first n ≡ []
unfolding formals_text
formals-none said wanted first n h = rw h

pub formals-more : (said : Said) (wanted : Bool) (first n : ℕ) → (n ≢ 0)
    → formals_text said wanted first n ≡ gap_text wanted ++ (variable_text (spell_of said) said.called first ++ formals_text said true (first + 1) (n - 1))
unfolding formals_text
formals-more said wanted first zero h = absurd (h refl)
formals-more said wanted first (suc n) h = let e : suc n - 1 ≡ n = omega arith in rw (e, add-one first)

pub gap-yes : (wanted : Bool) → wanted ≡ true → gap_text wanted ≡ 32 ∷ []
unfolding gap_text
gap-yes wanted h = rw h

pub gap-no : (wanted : Bool) → wanted ≡ false → gap_text wanted ≡ []
unfolding gap_text
gap-no wanted h = rw h

-- ---- openings and closings as code lays them

module _ (said : Said) (inner : Bool) where
  pub name-inner : (n : ℕ) → inner ≡ true → opening said inner (name_n n) ≡ spell_of said n
  unfolding opening
  name-inner n h = rw h

  pub name-quoted : (n : ℕ) → inner ≡ false → opening said inner (name_n n) ≡ (40 ∷ 113 ∷ 117 ∷ 111 ∷ 116 ∷ 101 ∷ 32 ∷ []) ++ (spell_of said n ++ (41 ∷ []))
  unfolding opening bytes
  name-quoted n h = rw h

  pub list-inner : (n : ℕ) → inner ≡ true → opening said inner (list_n n) ≡ 40 ∷ []
  unfolding opening bytes
  list-inner n h = rw h

  pub list-quoted : (n : ℕ) → inner ≡ false → opening said inner (list_n n) ≡ 40 ∷ 113 ∷ 117 ∷ 111 ∷ 116 ∷ 101 ∷ 32 ∷ 40 ∷ []
  unfolding opening bytes
  list-quoted n h = rw h

-- what closes a list
pub inner-closes : (inner : Bool) (n : ℕ) → inner ≡ true → 41 ∷ [] ≡ closing inner (list_n n)
unfolding closing bytes
inner-closes inner n h = rw h

pub quoted-closes : (inner : Bool) (n : ℕ) → inner ≡ false → 41 ∷ 41 ∷ [] ≡ closing inner (list_n n)
unfolding closing bytes
quoted-closes inner n h = rw h

-- #f and #t
pub boolean-false : (w : ℕ) → w ≡ 0 → 35 ∷ 102 ∷ [] ≡ constant_text (boolean w)
unfolding constant_text boolean bytes
boolean-false w h = rw h

pub boolean-true : (w : ℕ) → (w ≢ 0) → 35 ∷ 116 ∷ [] ≡ constant_text (boolean w)
unfolding constant_text boolean bytes
boolean-true w h = rw (ne_eqb _ _ h)

pub lambda-bytes : (said : Said) (first n : ℕ) → bytes "(lambda (" ++ (formals_text said false first n ++ bytes ") ") ≡ (40 ∷ 108 ∷ 97 ∷ 109 ∷ 98 ∷ 100 ∷ 97 ∷ 32 ∷ 40 ∷ []) ++ (formals_text said false first n ++ (41 ∷ 32 ∷ []))
unfolding bytes
lambda-bytes said first n = refl
