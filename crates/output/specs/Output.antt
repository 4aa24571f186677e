-- The output of the filing program, bytes and all: what reading, expansion and writing give for a text and fuel, printed.
use Rattle.std.specs.Prelude.{List, [], ◌∷◌, ◌++◌, ℕ}
use Rattle.std.proofs.Math.Option.{Option, none, some}
use Rattle.words.specs.Limits.{item_words_least, name_bytes_least, filing_work, filing_core}
use Rattle.words.specs.Text.{bytes}
use Rattle.datum.specs.NameTable.{name_at}
use Rattle.reading.specs.Elements.{Answer, got, refused_for}
use Rattle.reading.specs.Read.{Recipe, read, item_words, name_bytes}
use Rattle.recipe.specs.Name.{Name}
use Rattle.core_term.specs.Term.{Term}
use Rattle.core_term.specs.Decimal.{decimal}
use Rattle.core_term.specs.Text.{spaced, text}
use Rattle.expansion.specs.Run.{Outcome, accepted, refused_on, unfinished, Run, told, run}

-- a line of words, with its LF
unfoldable pub line : List (List ℕ) → List ℕ
line ws = spaced ws ++ (10 ∷ [])

-- refused, the ground, the two counts
unfoldable pub refusal : (ground_number steps sum : ℕ) → List ℕ
refusal ground_number steps sum = line (bytes "refused" ∷ decimal ground_number ∷ decimal steps ∷ decimal sum ∷ [])

-- accepted, the two counts
unfoldable pub header : (steps sum : ℕ) → List ℕ
header steps sum = line (bytes "accepted" ∷ decimal steps ∷ decimal sum ∷ [])

-- that, and the text of a term in a line of its own
unfoldable pub acceptance : (steps sum : ℕ) → List ℕ → List ℕ
acceptance steps sum term = header steps sum ++ line (term ∷ [])

-- the text of a run's term, with the name table of its recipe; that writing gives it is a law (Written)
unfoldable pub term_text : List ℕ → Option (Term Name) → List ℕ
term_text names none = []
term_text names (some t) = text (name_at names) (told t)

-- a run, with the name table of its recipe
unfoldable pub printed : List ℕ → Outcome → Run → List ℕ
printed names accepted r = acceptance r.steps r.sum (term_text names r.term)
printed names (refused_on stage ground_number) r = refusal ground_number r.steps r.sum
printed names unfinished r = []

-- the answer of reading, with the lengths of the work and core tables
unfoldable pub output_of : (fuel work core : ℕ) → Answer Recipe → List ℕ
output_of fuel work core (refused_for stage ground_number) = refusal ground_number 0 0
output_of fuel work core (got recipe) =
    let r = run (item_words recipe) fuel work core in
    printed (name_bytes recipe) r.outcome r

-- a text with fuel, and the lengths of the four lent tables
unfoldable pub filed : List ℕ → (fuel items names work core : ℕ) → List ℕ
filed text fuel items names work core = output_of fuel work core (read text items names)

-- in the filing program's tables
unfoldable pub output : List ℕ → ℕ → List ℕ
output text fuel = filed text fuel item_words_least name_bytes_least filing_work filing_core
