-- An accepted recipe is written, of a call of the writing service: in any output that is long enough.
use Rattle.std.specs.Prelude.{◌≡◌, List, ◌++◌, ℕ, ◌≤◌, length, drop, Result, Ok, Err}
use Rattle.words.specs.declared.ground.Ground.{Ground}
use Rattle.std.proofs.Common.{ap, subst, sym, ◌∙◌, arith}
use Rattle.std.proofs.Math.Option.{some}
use Rattle.words.specs.Limits.{operations_most}
use Rattle.datum.specs.NameTable.{has_name}
use Rattle.reading.specs.Elements.{got}
use Rattle.reading.specs.Read.{Recipe, read, item_words, name_bytes}
use Rattle.expansion.specs.Run.{accepted, Run, core_of, run}
use Rattle.expansion.specs.CoreTerm.{CoreTerm, Named}
use Rattle.expansion.proofs.CoreTermLaws.{run-operations, named-term-within}
use Rattle.output.specs.Output.{term_text}
use Rattle.output.specs.Written.{operation_count, AcceptedIsWritten}
use Rattle.output.proofs.WrittenLaws.{accepted-is-written}
use Rattle.writer.specs.Writing.{text_for, text_of}
use Rattle.writer.specs.Wrote.{Wrote}
use Rattle.writer.specs.WroteLaws.{written_is}
use Rattle.filing.specs.FileLaws.{refused-no-room}

-- ---- the text of a run's term

-- of a run whose items' names are in the table, with as many operations as any recipe may have
pub run-written : (names items : List ℕ) (fuel work core : ℕ) → Named (has_name names) items → (run items fuel work core).outcome ≡ accepted
    → CoreTerm operations_most (has_name names) (run items fuel work core)
run-written names items fuel work core named h =
    named-term-within (has_name names) items named fuel work core h operations_most (run-operations items fuel work core h) (omega arith)

pub term-text : (operations : ℕ) (names : List ℕ) (r : Run) → CoreTerm operations (has_name names) r → text_of (core_of r) operations names ≡ some (term_text names r.term)
unfolding text_of text_for term_text
term-text operations names r t = ap (text_for names) t.passes ∙ sym (ap (λ o. some (term_text names o)) t.given)

-- ---- a call

-- a text that fits is written
wrote-fits : (x out out' : List ℕ) (w : Result ℕ Ground) → Wrote (some x) out out' w → length x ≤ length out → (w ≡ Ok (length x)) × (out' ≡ x ++ drop (length x) out)
wrote-fits x out out' (Ok n) o l = let k = written_is x out out' n o in (ap Ok k.0, k.2)
wrote-fits x out out' (Err g) o l = absurd (omega (arith, (refused-no-room x out out' g o).0))

-- the claim: for a text that reading accepts, and a run of its items that is accepted, a call of writing with the reading's names and the
-- recipe's count of operations writes the term's text, whole, in any output that is no shorter
unfoldable pub WrittenCall : Type 0
WrittenCall =
    (text : List ℕ) (items names : ℕ) (recipe : Recipe)
    → read text items names ≡ got recipe
    → (fuel work core : ℕ)
    → (run (item_words recipe) fuel work core).outcome ≡ accepted
    → (out out' : List ℕ) (w : Result ℕ Ground)
    → Wrote (text_of (core_of (run (item_words recipe) fuel work core)) (operation_count recipe) (name_bytes recipe)) out out' w
    → length (term_text (name_bytes recipe) (run (item_words recipe) fuel work core).term) ≤ length out
    → (w ≡ Ok (length (term_text (name_bytes recipe) (run (item_words recipe) fuel work core).term)))
    × (out' ≡ term_text (name_bytes recipe) (run (item_words recipe) fuel work core).term ++ drop (length (term_text (name_bytes recipe) (run (item_words recipe) fuel work core).term)) out)

pub written-call : WrittenCall
unfolding WrittenCall AcceptedIsWritten
written-call text items names recipe h fuel work core e out out' w o l =
    let r = run (item_words recipe) fuel work core in
    let t = accepted-is-written text items names recipe h fuel work core e in
    wrote-fits (term_text (name_bytes recipe) r.term) out out' w (subst (λ x. Wrote x out out' w) (term-text (operation_count recipe) (name_bytes recipe) r t) o) l
