-- Words with known texts, computed from the definitions: the text, or 'ground 19'.
use Rattle.std.specs.Prelude.{◌≡◌, refl, List, [], ◌∷◌, ◌++◌, map, ℕ, replicate}
use Rattle.std.proofs.Math.Option.{Option, none, some}
use Prim.Native.String as S
use Rattle.words.specs.Lists.{within}
use Rattle.words.specs.Text.{bytes}
use Rattle.datum.specs.NameTable.{has_name, length_at, name_at, slot}
use Rattle.core_term.specs.Term.{Plain}
use Rattle.core_term.specs.Check.{term_of}
use Rattle.core_term.specs.Decimal.{leading, digits_by, decimal, padded, pointed, signed, integer_text, decimal_text}
use Rattle.core_term.specs.Text.{spaced_after, spaced, parenthesized, variable_text, operation_text, formal_texts, constant_text, bare, outermost, text_in, text}

-- nine slots, of which the last is x
unfoldable names : List ℕ
unfolding slot
names = replicate 512 0 ++ slot (bytes "x")

-- ten slots, of which the last two are t and u
unfoldable two : List ℕ
unfolding slot
two = replicate 512 0 ++ (slot (bytes "t") ++ slot (bytes "u"))

unfoldable text_or19 : List ℕ → Option Plain → List ℕ
text_or19 table none = bytes "ground 19"
text_or19 table (some t) = text (name_at table) t

unfoldable shown : ℕ → List ℕ → List ℕ → List ℕ
unfolding has_name within length_at name_at bytes term_of leading digits_by decimal padded pointed signed integer_text decimal_text spaced_after spaced parenthesized variable_text operation_text formal_texts constant_text bare outermost text_in text text_or19
shown operations table ws = text_or19 table (term_of operations (has_name table) ws)

record Row : Type 0 where
  operations : ℕ
  table : List ℕ
  words : List ℕ
  is : S.String

unfoldable row_with : ℕ → List ℕ → List ℕ → S.String → Row
row_with n table ws t = record { operations = n; table = table; words = ws; is = t }

unfoldable row : List ℕ → S.String → Row
unfolding row_with names
row = row_with 1 names

-- W1 to W31 but W18, an output that is too short; with one operation where no count is given. W19 to W25 are about decimals.
-- W26 to W31, the last six, are about the names of variables: two names; a name twice, in a lambda inside another; a name past
-- 1,023; an empty slot, though the variable is not used; a name behind the table; a name that is missing
unfoldable rows : List Row
unfolding row two
rows =
    row (7 ∷ 0 ∷ 1 ∷ 8 ∷ 0 ∷ 0 ∷ []) "(lambda (v0.x) v0.x)" ∷
    row (6 ∷ 7 ∷ 0 ∷ 1 ∷ 8 ∷ 0 ∷ 0 ∷ 7 ∷ 0 ∷ 1 ∷ 8 ∷ 0 ∷ 0 ∷ 2 ∷ 0 ∷ []) "ground 19" ∷
    row (6 ∷ 7 ∷ 0 ∷ 1 ∷ 8 ∷ 0 ∷ 0 ∷ 7 ∷ 1 ∷ 1 ∷ 8 ∷ 0 ∷ 0 ∷ 2 ∷ 0 ∷ []) "ground 19" ∷
    row (6 ∷ 7 ∷ 0 ∷ 1 ∷ 8 ∷ 0 ∷ 0 ∷ 7 ∷ 1 ∷ 1 ∷ 8 ∷ 0 ∷ 1 ∷ 2 ∷ 0 ∷ []) "(if (lambda (v0.x) v0.x) (lambda (v1.x) v1.x) 0)" ∷
    row (5 ∷ 2 ∷ 4 ∷ 8 ∷ 5 ∷ 0 ∷ []) "(quote (x ()))" ∷
    row (5 ∷ 1 ∷ 0 ∷ 0 ∷ []) "ground 19" ∷
    row (2 ∷ 5 ∷ 2 ∷ 6 ∷ []) "ground 19" ∷
    row (8 ∷ 0 ∷ []) "ground 19" ∷
    row (8 ∷ 4294967295 ∷ 2 ∷ 0 ∷ []) "ground 19" ∷
    row (3 ∷ 2 ∷ []) "ground 19" ∷
    row (3 ∷ 1 ∷ []) "#t" ∷
    row (7 ∷ 1 ∷ 0 ∷ 2 ∷ 5 ∷ []) "ground 19" ∷
    row (7 ∷ 0 ∷ 0 ∷ 2 ∷ 5 ∷ []) "(lambda () 5)" ∷
    row (7 ∷ 0 ∷ 9 ∷ 8 ∷ 8 ∷ 8 ∷ 8 ∷ 8 ∷ 8 ∷ 8 ∷ 8 ∷ 8 ∷ 2 ∷ 5 ∷ []) "ground 19" ∷
    row (7 ∷ 0 ∷ 2 ∷ 8 ∷ 8 ∷ 8 ∷ 1 ∷ 1 ∷ 0 ∷ 0 ∷ 1 ∷ []) "(lambda (v0.x v1.x) (o0 v1.x))" ∷
    row (1 ∷ 255 ∷ []) "ground 19" ∷
    row (2 ∷ 2147483648 ∷ []) "-2147483648" ∷
    row (4 ∷ 8 ∷ []) "(quote x)" ∷
    row (4 ∷ 9 ∷ []) "ground 19" ∷
    row (5 ∷ 0 ∷ []) "(quote ())" ∷
    row (7 ∷ 0 ∷ 1 ∷ 8 ∷ 8 ∷ 1 ∷ 0 ∷ 0 ∷ 7 ∷ 1 ∷ 0 ∷ 0 ∷ 0 ∷ []) "(lambda (v0.x) (v0.x (lambda () v0.x)))" ∷
    row [] "ground 19" ∷
    row (9 ∷ 80 ∷ 2 ∷ []) "0.80" ∷
    row (9 ∷ 4294967291 ∷ 1 ∷ []) "-0.5" ∷
    row (9 ∷ 2147483648 ∷ 4 ∷ []) "-214748.3648" ∷
    row (5 ∷ 4 ∷ 9 ∷ 0 ∷ 1 ∷ 9 ∷ 123400 ∷ 4 ∷ 9 ∷ 2147483647 ∷ 2 ∷ 9 ∷ 2147483648 ∷ 1 ∷ []) "(quote (0.0 12.3400 21474836.47 -214748364.8))" ∷
    row (9 ∷ 8 ∷ 0 ∷ []) "ground 19" ∷
    row (9 ∷ 8 ∷ 5 ∷ []) "ground 19" ∷
    row (9 ∷ 8 ∷ []) "ground 19" ∷
    row_with 256 names (1 ∷ 255 ∷ []) "o255" ∷
    row_with 257 names (1 ∷ 255 ∷ []) "ground 19" ∷
    row_with 1 (replicate 65535 1) (4 ∷ 1023 ∷ []) "ground 19" ∷
    row_with 0 two (7 ∷ 0 ∷ 2 ∷ 8 ∷ 9 ∷ 0 ∷ 1 ∷ []) "(lambda (v0.t v1.u) v1.u)" ∷
    row_with 0 two (7 ∷ 0 ∷ 2 ∷ 8 ∷ 9 ∷ 7 ∷ 2 ∷ 1 ∷ 8 ∷ 8 ∷ 1 ∷ 0 ∷ 2 ∷ 0 ∷ 1 ∷ []) "(lambda (v0.t v1.u) (lambda (v2.t) (v2.t v1.u)))" ∷
    row (7 ∷ 0 ∷ 1 ∷ 1024 ∷ 0 ∷ 0 ∷ []) "ground 19" ∷
    row (7 ∷ 0 ∷ 1 ∷ 7 ∷ 2 ∷ 5 ∷ []) "ground 19" ∷
    row (7 ∷ 0 ∷ 1 ∷ 9 ∷ 0 ∷ 0 ∷ []) "ground 19" ∷
    row (7 ∷ 0 ∷ 2 ∷ 8 ∷ []) "ground 19" ∷
    []

rows_are : map (λ r. shown r.operations r.table r.words) rows ≡ map (λ r. bytes r.is) rows
unfolding rows shown
rows_are = refl
