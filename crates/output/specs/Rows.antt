-- The recipes of document 01 that are marked P, from the text to the whole output: rows of one table, proved together.
use Rattle.std.specs.Prelude.{◌≡◌, refl, List, [], ◌∷◌, map, ℕ}
use Prim.Native.String.{String}
use Rattle.words.specs.Limits.{filing_fuel}
use Rattle.words.specs.Lists as Lists
use Rattle.words.specs.Text.{bytes}
use Rattle.datum.specs.NameTable as NameTable
use Rattle.reading.specs.Read as Read
use Rattle.core_term.specs.Decimal as Decimal
use Rattle.core_term.specs.Text as Text
use Rattle.expansion.specs.Computed.{computed}
use Rattle.output.specs.Output.{line, refusal, header, acceptance, term_text, printed, output_of, filed, output}

pub record Row : Type 0 where
  pub recipe : String
  pub fuel : ℕ
  pub output : String

unfoldable pub row_with : ℕ → String → String → Row
row_with fuel recipe output = record { recipe = recipe; fuel = fuel; output = output }

unfoldable pub row : String → String → Row
unfolding row_with
row = row_with filing_fuel

-- what the definitions give for a row
unfoldable pub printed_for : Row → List ℕ
unfolding
    Lists.within bytes
    NameTable.slot NameTable.slots NameTable.length_at NameTable.name_at
    Read.read Read.item_words Read.name_bytes
    computed
    Decimal.leading Decimal.digits_by Decimal.decimal Decimal.padded Decimal.pointed Decimal.signed Decimal.integer_text Decimal.decimal_text
    Text.spaced_after Text.spaced Text.parenthesized Text.variable_text Text.operation_text Text.formal_texts Text.constant_text
    Text.bare Text.outermost Text.text_in Text.text
    line refusal header acceptance term_text printed output_of filed output
printed_for r = output (bytes r.recipe) r.fuel

unfoldable pub rows : List Row
unfolding row row_with
rows =
    row "() (let-syntax ((or2 (syntax-rules () ((_ a b) ((lambda (t) (if t t b)) a))))) (lambda (t) (or2 #f t)))"
    "accepted 1 21\n(lambda (v0.t) ((lambda (v1.t) (if v1.t v1.t v0.t)) #f))\n" ∷
    row_with 21 "() (let-syntax ((or2 (syntax-rules () ((_ a b) ((lambda (t) (if t t b)) a))))) (lambda (t) (or2 #f t)))"
    "accepted 1 21\n(lambda (v0.t) ((lambda (v1.t) (if v1.t v1.t v0.t)) #f))\n" ∷
    row_with 20 "() (let-syntax ((or2 (syntax-rules () ((_ a b) ((lambda (t) (if t t b)) a))))) (lambda (t) (or2 #f t)))"
    "refused 18 0 0\n" ∷
    row "() (lambda (x) (let-syntax ((m (syntax-rules () ((_) x)))) (lambda (x) (m))))"
    "accepted 1 1\n(lambda (v0.x) (lambda (v1.x) v0.x))\n" ∷
    row "() (lambda (if) (if 1 2))"
    "accepted 0 0\n(lambda (v0.if) (v0.if 1 2))\n" ∷
    row "() (let-syntax ((if (syntax-rules () ((_ a b c) (if a b c))))) (if 1 2 3))"
    "accepted 1 9\n(if 1 2 3)\n" ∷
    row "() (letrec-syntax ((if (syntax-rules () ((_ a b c) (if a b c))))) (if 1 2 3))"
    "refused 18 56 504\n" ∷
    row "() (let-syntax ((k (syntax-rules () ((_ x) (lambda (t x) t))))) (k t))"
    "accepted 1 11\n(lambda (v0.t v1.t) v0.t)\n" ∷
    row "() (lambda (t t) 1)"
    "refused 14 0 0\n" ∷
    row "() ()"
    "refused 13 0 0\n" ∷
    row "() (f 1)"
    "refused 11 0 0\n" ∷
    -- beside those marked P: the limit of ground 9, a refused reading, a quoted list
    -- e = 84 passes ground 9
    row "() (1 1 1 1 1 1 1 1 1 1 1 1 1 1 1 1 1 1 1 1 1 1 1 1 1 1 1 1 1 1 1 1 1 1 1 1 1 1 1 1 1 1 1 1 1 1 1 1 1 1 1 1 1 1 1 1 1 1 1 1 1 1 1 1 1 1 1 1 1 1 1 1 1 1 1 1 1 1 1 1 1 1)"
    "accepted 0 0\n(1 1 1 1 1 1 1 1 1 1 1 1 1 1 1 1 1 1 1 1 1 1 1 1 1 1 1 1 1 1 1 1 1 1 1 1 1 1 1 1 1 1 1 1 1 1 1 1 1 1 1 1 1 1 1 1 1 1 1 1 1 1 1 1 1 1 1 1 1 1 1 1 1 1 1 1 1 1 1 1 1 1)\n" ∷
    -- e = 85 does not
    row "() (1 1 1 1 1 1 1 1 1 1 1 1 1 1 1 1 1 1 1 1 1 1 1 1 1 1 1 1 1 1 1 1 1 1 1 1 1 1 1 1 1 1 1 1 1 1 1 1 1 1 1 1 1 1 1 1 1 1 1 1 1 1 1 1 1 1 1 1 1 1 1 1 1 1 1 1 1 1 1 1 1 1 1)"
    "refused 9 0 0\n" ∷
    -- a text that is not read
    row "() (lambda (x) x"
    "refused 5 0 0\n" ∷
    -- the names of variables: as written, from the use, of a form, and none
    row "() (lambda (t u) ((lambda (t) (t u)) t))"
    "accepted 0 0\n(lambda (v0.t v1.u) ((lambda (v2.t) (v2.t v1.u)) v0.t))\n" ∷
    row "() (let-syntax ((k (syntax-rules () ((_ x) (lambda (x) x))))) (k y))"
    "accepted 1 9\n(lambda (v0.y) v0.y)\n" ∷
    row "() (lambda (if) (lambda () (if 1 2)))"
    "accepted 0 0\n(lambda (v0.if) (lambda () (v0.if 1 2)))\n" ∷
    -- a quoted list, with its names
    row "() (lambda (y) (quote (y if #t -5 ())))"
    "accepted 0 0\n(lambda (v0.y) (quote (y if #t -5 ())))\n" ∷
    []

pub rows-hold : map printed_for rows ≡ map (λ r. bytes r.output) rows
unfolding printed_for rows
rows-hold = refl
