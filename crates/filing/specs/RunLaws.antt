-- From the answers of reading and expansion to the output that the definitions give.
use Rattle.std.specs.Prelude.{◌≡◌, refl, length, take, Result, Ok, Err}
use Rattle.words.specs.declared.ground.Ground.{Ground}
use Rattle.words.specs.Code.Ground.{number_of}
use Rattle.std.proofs.Math.Path.{ap}
use Rattle.std.proofs.Common.{◌∙◌}
use mathlib.Core.List.{List}
use Rattle.std.proofs.Math.Option.{some}
use Prim.Native.Nat.{ℕ, ◌*◌}
use Rattle.words.specs.Limits.{operations_most, slot_size}
use Rattle.datum.specs.NameTable.{has_name}
use Rattle.reader.specs.declared.Counts.{Counts}
use Rattle.reader.specs.Served as R
use Rattle.expansion.specs.Run.{Run, run}
use Rattle.expansion.specs.CoreTerm.{Named}
use Rattle.turns.specs.declared.answers.Refused.{Refused}
use Rattle.expander.specs.declared.Expanded.{Expanded as Reached}
use Rattle.expander.specs.Service as E
use Rattle.expander.specs.Service.{Expansion, Numbers, numbers_of, run_numbers}
use Rattle.program_laws.specs.ReadLaws.{refused-read, items-named, of-recipe}
use Rattle.program_laws.specs.RunLaws.{run-told, ran-accepted, ran-refused, term-front}
use Rattle.output.specs.Output.{refusal, acceptance, term_text, printed, output_of, filed}
use Rattle.writer.specs.Writing.{text_of}
use Rattle.writer.specs.Wrote.{Wrote}
use Rattle.filing.specs.FileLaws.{wrote-is}
use Rattle.filing.specs.Written.{run-written, term-text}
use Rattle.filing.specs.Filed.{printed_run, Expanded, work_left, core_left, Filed}

-- ---- expansion

module _ (items : List ℕ) (fuel : ℕ) (work work' core core' : List ℕ) (r : Expansion) (s : E.Served items fuel work work' core core' r) where
  abbrev ran : Run
  ran = run items fuel (length work) (length core)

  abbrev counts : (q : Expansion) → r ≡ q → numbers_of q ≡ run_numbers ran
  counts = run-told items fuel work work' core core' r s

  -- the run's output is written
  expanded-by : {names x out out' : List ℕ} {q : Result ℕ Ground} → x ≡ printed_run names ran → Wrote (some x) out out' q → Expanded items fuel names work work' core core' out out' q
  expanded-by e x = record { output = wrote-is e x; work-after = s.work-after; core-after = s.core-after }

  pub expanded-accepted : (e : Reached) → r ≡ Ok e → {names out out' : List ℕ} {q : Result ℕ Ground}
      → ((x : List ℕ) → text_of (take e.length core') operations_most names ≡ some x → Wrote (some (acceptance e.steps e.sum x)) out out' q)
      → Named (has_name names) items → Expanded items fuel names work work' core core' out out' q
  unfolding numbers_of run_numbers printed_run printed
  expanded-accepted e h {names} write named =
      let k = counts (Ok e) h in
      let done = ran-accepted items fuel work work' core core' r s e h in
      let front = (term-front items fuel work work' core core' r s e h e.length refl).1 in
      let text = term-text operations_most names ran (run-written names items fuel (length work) (length core) named done) in
      expanded-by (rw (done, ap (λ (x : Numbers). x.steps) k, ap (λ (x : Numbers). x.sum) k)) (write (term_text names ran.term) (ap (λ ws. text_of ws operations_most names) front ∙ text))

  pub expanded-refused : (e : Refused) → r ≡ Err e → {names out out' : List ℕ} {q : Result ℕ Ground} → Wrote (some (refusal (number_of e.ground) e.steps e.sum)) out out' q
      → Expanded items fuel names work work' core core' out out' q
  unfolding numbers_of run_numbers printed_run printed
  expanded-refused e h =
      let k = counts (Err e) h in
      expanded-by (rw ((ran-refused items fuel work work' core core' r s e h).1, ap (λ (x : Numbers). x.steps) k, ap (λ (x : Numbers). x.sum) k))

-- ---- reading

module _ (text items items' names names' : List ℕ) (r : Result Counts Ground) (s : R.Served text items items' names names' r) where
  pub filed-read : (k : Counts) → r ≡ Ok k → {fuel : ℕ} {work work' core core' out out' : List ℕ} {w : Result ℕ Ground}
      → (Named (has_name (take (slot_size * k.names) names')) (take (3 * k.items) items') → Expanded (take (3 * k.items) items') fuel (take (slot_size * k.names) names') work work' core core' out out' w)
      → Filed text fuel items items' names names' work work' core core' out out' w
  unfolding printed_run filed output_of work_left core_left
  filed-read k h {fuel} {work} {core = core} expanded =
      let x = expanded (items-named text items items' names names' r s k h) in
      let ran : List ℕ → Run = λ ws. run ws fuel (length work) (length core) in
      record {
        output = wrote-is (of-recipe text items items' names names' r s k h (λ ws ns. printed_run ns (ran ws)) (output_of fuel (length work) (length core)) (λ y. refl)) x.output;
        items-after = s.items;
        names-after = s.names;
        work-after = x.work-after ∙ of-recipe text items items' names names' r s k h (λ ws ns. E.work_after (ran ws) work) (λ a. work_left fuel (length core) a work) (λ y. refl);
        core-after = x.core-after ∙ of-recipe text items items' names names' r s k h (λ ws ns. E.core_after (ran ws) core) (λ a. core_left fuel (length work) a core) (λ y. refl);
      }

  pub filed-refused : (g : Ground) → r ≡ Err g → {fuel : ℕ} {work core out out' : List ℕ} {w : Result ℕ Ground} → Wrote (some (refusal (number_of g) 0 0)) out out' w
      → Filed text fuel items items' names names' work work core core out out' w
  unfolding filed output_of work_left core_left
  filed-refused g h x =
      let e = (refused-read text items items' names names' r s g h).1 in
      record { output = wrote-is (rw e) x; items-after = s.items; names-after = s.names; work-after = rw e; core-after = rw e }
