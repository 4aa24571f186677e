-- The promise of the filing call: its output, and every word of the four tables that it is lent, for every text, fuel and lengths
-- of tables.
use Rattle.std.specs.Prelude.{◌≡◌, List, ℕ, length, Result}
use Rattle.words.specs.declared.ground.Ground.{Ground}
use Rattle.std.proofs.Math.Option.{some}
use Rattle.reading.specs.Elements.{Answer, got, refused_for}
use Rattle.reading.specs.Read.{Recipe, read, item_words, items_after, names_after}
use Rattle.expansion.specs.Run.{Run, run}
use Rattle.expander.specs.Service.{work_after, core_after}
use Rattle.output.specs.Output.{printed, filed}
use Rattle.writer.specs.Wrote.{Wrote}

-- ---- a recipe's items

-- the output of a run
unfoldable pub printed_run : List ℕ → Run → List ℕ
printed_run names r = printed names r.outcome r

-- the run's output, and what expansion leaves of its tables; writing changes neither
pub record Expanded (items : List ℕ) (fuel : ℕ) (names work work' core core' out out' : List ℕ) (r : Result ℕ Ground) : Type 0 where
  pub output : Wrote (some (printed_run names (run items fuel (length work) (length core)))) out out' r
  pub work-after : work' ≡ work_after (run items fuel (length work) (length core)) work
  pub core-after : core' ≡ core_after (run items fuel (length work) (length core)) core

-- ---- a text

-- what expansion leaves of the work and core tables, with fuel; where reading turns the text back it is not called
module _ (fuel : ℕ) where
  unfoldable pub work_left : (core : ℕ) → Answer Recipe → List ℕ → List ℕ
  work_left core (got r) work = work_after (run (item_words r) fuel (length work) core) work
  work_left core (refused_for stage g) work = work

  unfoldable pub core_left : (work : ℕ) → Answer Recipe → List ℕ → List ℕ
  core_left work (got r) core = core_after (run (item_words r) fuel work (length core)) core
  core_left work (refused_for stage g) core = core

-- what a call answers and leaves
pub record Filed (text : List ℕ) (fuel : ℕ) (items items' names names' work work' core core' out out' : List ℕ) (r : Result ℕ Ground) : Type 0 where
  pub output : Wrote (some (filed text fuel (length items) (length names) (length work) (length core))) out out' r
  pub items-after : items' ≡ items_after (read text (length items) (length names)) items
  pub names-after : names' ≡ names_after (read text (length items) (length names)) names
  pub work-after : work' ≡ work_left fuel (length core) (read text (length items) (length names)) work
  pub core-after : core' ≡ core_left fuel (length work) (read text (length items) (length names)) core
