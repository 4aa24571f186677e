-- A recipe with a known expansion, as a row of a table: its text, the fuel, and what its run gives in the filing program's tables.
use Rattle.std.specs.Prelude.{List, [], ℕ}
use Prim.Native.String.{String}
use Rattle.words.specs.Limits.{filing_fuel, filing_work, filing_core}
use Rattle.words.specs.Text.{bytes}
use Rattle.words.specs.Tables.{testing, begun}
use Rattle.reading.specs.Elements.{Answer, got, refused_for}
use Rattle.reading.specs.Read.{Recipe, recipe_of, item_words}
use Rattle.expansion.specs.Run.{Outcome, accepted, refused_on, Run, core_of}
use Rattle.expansion.specs.Computed.{computed}

pub record Row : Type 0 where
  pub text : String
  pub fuel : ℕ
  pub outcome : Outcome
  pub steps : ℕ
  pub sum : ℕ
  pub core : List ℕ

-- ---- rows

-- an accepted recipe: steps, sum, core words
unfoldable pub gives : String → (steps sum : ℕ) → List ℕ → Row
gives text steps sum core = record { text = text; fuel = filing_fuel; outcome = accepted; steps = steps; sum = sum; core = core }

-- one that is turned back before it begins
unfoldable pub turns_back : String → (ground_number : ℕ) → Row
turns_back text ground_number = record { text = text; fuel = filing_fuel; outcome = refused_on testing ground_number; steps = 0; sum = 0; core = [] }

-- a refused one: ground, steps, sum
unfoldable pub refuses : String → (ground_number steps sum : ℕ) → Row
refuses text ground_number steps sum = record { text = text; fuel = filing_fuel; outcome = refused_on begun ground_number; steps = steps; sum = sum; core = [] }

-- the row with other fuel
unfoldable pub with_fuel : ℕ → Row → Row
with_fuel fuel r = record { text = r.text; fuel = fuel; outcome = r.outcome; steps = r.steps; sum = r.sum; core = r.core }

-- ---- the row that the definitions give

-- the item table of a text; none where the text is refused
unfoldable pub items_of : Answer Recipe → List ℕ
unfolding item_words
items_of (got recipe) = item_words recipe
items_of (refused_for stage g) = []

-- the run of a text in the filing program's tables
unfoldable pub run_of : String → ℕ → Run
unfolding bytes recipe_of items_of computed
run_of text fuel = computed (items_of (recipe_of (bytes text))) fuel filing_work filing_core

unfoldable pub filed : Row → Row
unfolding run_of
filed r =
    let run = run_of r.text r.fuel in
    record { text = r.text; fuel = r.fuel; outcome = run.outcome; steps = run.steps; sum = run.sum; core = core_of run }
