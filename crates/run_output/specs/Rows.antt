-- Recipes run, from the text to the whole output.
use Rattle.std.specs.Prelude.{◌≡◌, refl, List, [], ◌∷◌, map, ℕ}
use Prim.Native.String.{String}
use Rattle.words.specs.Text.{bytes}
use Rattle.datum.specs.NameTable as NameTable
use Rattle.reading.specs.Read as Read
use Rattle.core_term.specs.Decimal as Decimal
use Rattle.core_term.specs.Text as Text
use Rattle.output.specs.Output.{line}
use Rattle.recipe_runs.specs.Rows.{computed}
use Rattle.run_output.specs.Output.{refusal, boolean_text, value_line, acceptance, printed, output_of, output}

-- a recipe and what is printed
pub record Row : Type 0 where
  pub recipe : String
  pub output : String

unfoldable pub row : String → String → Row
row recipe output = record { recipe = recipe; output = output }

-- what the definitions give for a row
unfoldable pub output_for : Row → List ℕ
unfolding
    bytes NameTable.slot NameTable.slots Read.read Read.item_words Read.name_bytes
    computed
    Decimal.leading Decimal.digits_by Decimal.decimal Decimal.signed Text.spaced_after Text.spaced
    line refusal boolean_text value_line acceptance printed output_of output
output_for r = output (bytes r.recipe)

unfoldable pub rows : List Row
unfolding row
rows =
    row "() 5" "accepted 1\n5\n" ∷
    row "(sum difference less equal) (difference 405 410)" "accepted 4\n-5\n" ∷
    row "(sum difference) (difference -1 2147483647)" "accepted 4\n-2147483648\n" ∷
    row "(sum difference less equal) (let-syntax ((near (syntax-rules () ((_ a b most) (less (difference b a) most))))) (near 405 410 6))" "accepted 7\n#t\n" ∷
    row "(sum difference less equal) (let-syntax ((near (syntax-rules () ((_ a b most) (less (difference b a) most))))) (near 405 410 5))" "accepted 7\n#f\n" ∷
    row "() (let-syntax ((or2 (syntax-rules () ((_ a b) ((lambda (t) (if t t b)) a))))) (or2 #f (quote (obverse reverse))))" "accepted 6\ndatum 11\n" ∷
    row "() (lambda (x) x)" "accepted 1\nclosure\n" ∷
    row "(sum) (if 0 sum 1)" "accepted 3\noperation\n" ∷
    -- a row of three coins, whose neighbours are alike by 85 and 92 of 100: how many clusters there are at 80, and at 90
    row "(sum difference less equal) (let-syntax ((clusters (syntax-rules () ((_ threshold alike ...) (sum 1 (sum (if (less alike threshold) 1 0) ...)))))) (clusters 80 85 92))" "accepted 17\n1\n" ∷
    row "(sum difference less equal) (let-syntax ((clusters (syntax-rules () ((_ threshold alike ...) (sum 1 (sum (if (less alike threshold) 1 0) ...)))))) (clusters 90 85 92))" "accepted 17\n2\n" ∷
    -- refused in reading, in expansion and in evaluation
    row "()" "refused 5\n" ∷
    row "1 5" "refused 7\n" ∷
    row "() (f 1)" "refused 11\n" ∷
    row "(sum) (sum 2147483647 1)" "refused 25\n" ∷
    row "() 0.80" "refused 25\n" ∷
    row "(sum) (sum 1)" "refused 26\n" ∷
    row "() ((lambda (x) (x x)) (lambda (x) (x x)))" "refused 27\n" ∷
    []

pub rows-hold : map output_for rows ≡ map (λ r. bytes r.output) rows
unfolding output_for rows
rows-hold = refl
