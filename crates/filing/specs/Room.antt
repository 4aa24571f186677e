-- No output of the filing program passes the 116,736 bytes that it has, so it always prints what the definition says.
use Rattle.std.specs.Prelude.{◌≡◌, ℕ, ◌≤◌, ◌<◌, Result, Ok, Err}
use Rattle.std.specs.Result.{result_unwrap_or}
use Rattle.words.specs.declared.ground.Ground.{Ground}
use Rattle.std.proofs.Math.Path.{refl, subst}
use Rattle.std.proofs.Common.{sym, ap}
use mathlib.Core.List.{List, [], ◌∷◌, ◌++◌}
use Rattle.std.proofs.Math.Option.{some}
use native.Mathlib.Omega.{arith}
use Rattle.std.proofs.Math.ListN.{length, length-append}
use Rattle.words.specs.Limits.{item_words_least, name_bytes_least, operations_most, filing_fuel, filing_work, filing_core}
use Rattle.datum.specs.NameTable.{has_name}
use Rattle.reading.specs.Elements.{Answer, got, refused_for}
use Rattle.reading.specs.Read.{Recipe, read, item_words, name_bytes}
use Rattle.reading_layout.specs.Answers.{read-ground}
use Rattle.core_term.specs.Decimal.{decimal}
use Rattle.core_term.specs.Text.{spaced_after, spaced}
use Rattle.core_term.proofs.OfCode.CheckLaws as C
use Rattle.core_term.specs.TextRoom.{limit}
use Rattle.core_term.proofs.TextRoomLaws.{number-room, text-room}
use Rattle.expansion.specs.Run.{Outcome, accepted, refused_on, unfinished, Run, core_of, run}
use Rattle.expansion.specs.CoreTerm.{CoreTerm, Named}
use Rattle.expansion.proofs.Bounds.{run-sum, run-steps, run-core-fits}
use Rattle.expansion.proofs.Ways.Grounds.{ground-range, run-ground}
use Rattle.output.specs.Output.{line, refusal, header, acceptance, term_text, printed, output_of, filed, output}
use Rattle.output.proofs.WrittenLaws.{recipe-named}
use Rattle.writer.specs.Wrote.{Wrote}
use Rattle.writer.specs.WroteLaws.{written_is}
use Rattle.filing.specs.FileLaws.{refused-no-room}
use Rattle.program_laws.specs.Printed.{Printed}
use Rattle.filing.specs.Written.{run-written}
use Rattle.filing.specs.File.{output_most}
use Rattle.filing.specs.Lines.{counts_text, refusal-laid, header-laid}

-- ---- lines

counts-room : (steps sum : ℕ) → steps < limit → sum < limit → length (counts_text steps sum) ≤ 23
unfolding counts_text
counts-room steps sum p q =
    omega (
      arith,
      length-append (32 ∷ decimal steps) ((32 ∷ decimal sum) ++ (10 ∷ [])),
      length-append (32 ∷ decimal sum) (10 ∷ []),
      number-room steps p,
      number-room sum q,
    )

refusal-room : (ground_number steps sum : ℕ) → ground_number < limit → steps < limit → sum < limit → length (refusal ground_number steps sum) ≤ 41
refusal-room ground_number steps sum g p q =
    omega (arith, ap length (refusal-laid ground_number steps sum), length-append (32 ∷ decimal ground_number) (counts_text steps sum), number-room ground_number g, counts-room steps sum p q)

header-room : (steps sum : ℕ) → steps < limit → sum < limit → length (header steps sum) ≤ 31
header-room steps sum p q = omega (arith, ap length (header-laid steps sum), counts-room steps sum p q)

-- ---- outputs

module _ (fuel : ℕ) (small : fuel < limit) where
  acceptance-room : (names : List ℕ) (r : Run) (steps sum : ℕ) → CoreTerm operations_most (has_name names) r → steps < limit → sum < limit → length (core_of r) ≤ filing_core
      → length (acceptance steps sum (term_text names r.term)) ≤ output_most
  unfolding acceptance term_text line spaced spaced_after
  acceptance-room names r steps sum t p q l =
      let x = term_text names (some t.term) in
      let room : length (header steps sum ++ (x ++ (10 ∷ []))) ≤ output_most = omega (
        arith,
        length-append (header steps sum) (x ++ (10 ∷ [])),
        length-append x (10 ∷ []),
        header-room steps sum p q,
        text-room operations_most names (core_of r) _ (C.accepted operations_most (has_name names) (core_of r) _ t.passes) (omega arith),
      ) in
      subst (λ o. length (header steps sum ++ (term_text names o ++ (10 ∷ []))) ≤ output_most) (sym t.given) room

  module _ (names items : List ℕ) (named : Named (has_name names) items) (work core : ℕ) (few : core ≤ filing_core) where
    abbrev it : Run
    it = run items fuel work core

    printed-room : (o : Outcome) → it.outcome ≡ o → length (printed names o it) ≤ output_most
    unfolding printed
    printed-room accepted e =
        acceptance-room names it it.steps it.sum (run-written names items fuel work core named e) (omega (arith, run-steps items fuel work core, run-sum items fuel work core))
        (omega (arith, run-sum items fuel work core)) (omega (arith, run-core-fits items fuel work core))
    printed-room (refused_on w g) e =
        omega (
          arith,
          refusal-room g it.steps it.sum (omega (arith, (ground-range w g (run-ground items fuel work core w g e)).1))
              (omega (arith, run-steps items fuel work core, run-sum items fuel work core)) (omega (arith, run-sum items fuel work core)),
        )
    printed-room unfinished e = omega arith

  -- so the filing program always prints
  pub filed-room : (txt : List ℕ) (items names work core : ℕ) → core ≤ filing_core → length (filed txt fuel items names work core) ≤ output_most
  unfolding filed output_of
  filed-room txt items names work core few = go (read txt items names) refl
    where
      go : (a : Answer Recipe) → read txt items names ≡ a → length (output_of fuel work core a) ≤ output_most
      go (got r) e = printed-room (name_bytes r) (item_words r) (recipe-named txt items names r e) work core few (run (item_words r) fuel work core).outcome refl
      go (refused_for stage g) e = omega (arith, refusal-room g 0 0 (omega (arith, (read-ground txt items names stage g e).1)) (omega arith) (omega arith))

-- ---- in the filing program's tables

module _ (txt out out' : List ℕ) (r : Result ℕ Ground) (items names work core : ℕ) (w : Wrote (some (filed txt filing_fuel items names work core)) out out' r)
    (i : items ≡ item_words_least) (n : names ≡ name_bytes_least) (k : work ≡ filing_work) (c : core ≡ filing_core) (room : output_most ≤ length out) where
  abbrev whole : List ℕ
  whole = output txt filing_fuel

  told : Wrote (some whole) out out' r
  unfolding output
  told = subst (λ (x : List ℕ). Wrote (some x) out out' r) (rw (i, n, k, c)) w

  fits : length whole ≤ length out
  unfolding output
  fits = omega (arith, filed-room filing_fuel (omega arith) txt item_words_least name_bytes_least filing_work filing_core (omega arith))

  -- it is written whole
  pub output-told : Printed whole out out' (result_unwrap_or r 0)
  output-told = go r told
    where
      go : (q : Result ℕ Ground) → Wrote (some whole) out out' q → Printed whole out out' (result_unwrap_or q 0)
      go (Ok to) v = let k = written_is whole out out' to v in record { size = k.0; bytes = k.2 }
      go (Err g) v = absurd (omega (arith, fits, (refused-no-room whole out out' g v).0))
