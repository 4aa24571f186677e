-- Pairs of a recipe and a supplier's text, from both texts to the whole output.
use Rattle.std.specs.Prelude.{◌≡◌, refl, List, [], ◌∷◌, map, ℕ}
use Prim.Native.String.{String}
use Rattle.words.specs.Text.{bytes}
use Rattle.datum.specs.NameTable as NameTable
use Rattle.reading.specs.Read as Read
use Rattle.core_term.specs.Decimal as Decimal
use Rattle.core_term.specs.Text as Text
use Rattle.expansion.specs.Computed.{computed}
use Rattle.comparison.specs.Rows.{compared, or2, lists}
use Rattle.output.specs.Output.{line}
use Rattle.comparison_output.specs.Output.{refused_line, recipe_refused, verdict_line, printed, printed_for, output_of, output}

-- a recipe, a supplier's text and what is printed
pub record Row : Type 0 where
  pub recipe : String
  pub text : String
  pub output : String

unfoldable pub row : String → String → String → Row
row recipe text output = record { recipe = recipe; text = text; output = output }

-- what the definitions give for a row
unfoldable pub output_for : Row → List ℕ
unfolding
    bytes NameTable.slot NameTable.slots Read.read Read.read_elements Read.item_words Read.name_bytes
    computed compared
    Decimal.leading Decimal.digits_by Decimal.decimal Text.spaced_after Text.spaced
    line refused_line recipe_refused verdict_line printed printed_for output_of output
output_for r = output (bytes r.recipe) (bytes r.text)

unfoldable pub rows : List Row
unfolding row or2 lists
rows =
    -- the faithful text, and the one in which a macro's private t caught the curator's
    row or2 "(lambda (t) ((lambda (t.1) (if t.1 t.1 t)) #f))" "yes\n" ∷
    row or2 "(lambda (t) ((lambda (t) (if t t t)) #f))" "no\n" ∷
    row lists "(lambda (x) (list x (quote (t list))))" "yes\n" ∷
    -- the text is refused
    row lists "(lambda (x) (o0 x (quote (t list))))" "refused 22 text\n" ∷
    row "() 5" "()" "refused 21 text\n" ∷
    row "() 5" "5 5" "refused 5 text\n" ∷
    row "() 5" "A" "refused 3 text\n" ∷
    row "() 5" "2147483648" "refused 4 text\n" ∷
    -- the recipe is refused, in reading and in expansion, whatever the text
    row "()" "5" "refused 5 recipe\n" ∷
    row "() A" "5 5" "refused 3 recipe\n" ∷
    row "1 5" "5" "refused 7 recipe\n" ∷
    row "(if) 5" "5" "refused 10 recipe\n" ∷
    row "() (f 1)" "(f 1)" "refused 11 recipe\n" ∷
    row "() (letrec-syntax ((m (syntax-rules () ((_) (m))))) (m))" "()" "refused 18 recipe\n" ∷
    -- 85 elements, which the filing program's tables do not take
    row "() (1 1 1 1 1 1 1 1 1 1 1 1 1 1 1 1 1 1 1 1 1 1 1 1 1 1 1 1 1 1 1 1 1 1 1 1 1 1 1 1 1 1 1 1 1 1 1 1 1 1 1 1 1 1 1 1 1 1 1 1 1 1 1 1 1 1 1 1 1 1 1 1 1 1 1 1 1 1 1 1 1 1 1)"
    "(1 1 1 1 1 1 1 1 1 1 1 1 1 1 1 1 1 1 1 1 1 1 1 1 1 1 1 1 1 1 1 1 1 1 1 1 1 1 1 1 1 1 1 1 1 1 1 1 1 1 1 1 1 1 1 1 1 1 1 1 1 1 1 1 1 1 1 1 1 1 1 1 1 1 1 1 1 1 1 1 1 1 1)"
    "yes\n" ∷
    []

pub rows-hold : map output_for rows ≡ map (λ r. bytes r.output) rows
unfolding output_for rows
rows-hold = refl
