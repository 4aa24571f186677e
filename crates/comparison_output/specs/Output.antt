-- The output of the program that holds a supplier's text against a recipe's expansion (request L4), bytes and all.
use Rattle.std.specs.Prelude.{List, [], ◌∷◌, ℕ}
use Rattle.words.specs.Limits.{item_words_least, name_bytes_least, fuel_most, work_most, core_most}
use Rattle.words.specs.Text.{bytes}
use Rattle.reading.specs.Elements.{Answer, got, refused_for}
use Rattle.reading.specs.Read.{Recipe, read, read_elements, item_words, name_bytes}
use Rattle.core_term.specs.Decimal.{decimal}
use Rattle.expansion.specs.Run.{Outcome, accepted, refused_on, unfinished, Run, core_of, run}
use Rattle.comparison.specs.Compare as C
use Rattle.comparison.specs.Compare.{Verdict, yes, no, comparison}
use Rattle.output.specs.Output.{line}

-- refused, the ground, and whose text it is about
unfoldable pub refused_line : (ground_number : ℕ) (whose : List ℕ) → List ℕ
refused_line ground_number whose = line (bytes "refused" ∷ decimal ground_number ∷ whose ∷ [])

unfoldable pub recipe_refused : (ground_number : ℕ) → List ℕ
unfolding refused_line
recipe_refused ground_number = refused_line ground_number (bytes "recipe")

-- yes, no, or refused about the supplier's text
unfoldable pub verdict_line : Verdict → List ℕ
unfolding refused_line
verdict_line yes = line (bytes "yes" ∷ [])
verdict_line no = line (bytes "no" ∷ [])
verdict_line (C.refused_on ground_number) = refused_line ground_number (bytes "text")

-- the recipe's run, with the answer of comparing its words, which after an accepted run refuses the text alone (`text-alone`); no run is
-- unfinished (`run-finished`)
unfoldable pub printed : Outcome → Verdict → List ℕ
printed accepted v = verdict_line v
printed (refused_on stage ground_number) v = recipe_refused ground_number
printed unfinished v = []

-- items and names of a recipe, with fuel, the lengths of the work and core tables, and the answer of reading the text
unfoldable pub printed_for : (items names : List ℕ) (fuel work core : ℕ) (text : Answer Recipe) → List ℕ
printed_for items names fuel work core text =
    let r = run items fuel work core in
    printed r.outcome (comparison items names (core_of r) text).verdict

-- the answers of reading both texts; the recipe goes first
unfoldable pub output_of : (fuel work core : ℕ) (recipe text : Answer Recipe) → List ℕ
output_of fuel work core (refused_for stage ground_number) text = recipe_refused ground_number
output_of fuel work core (got r) text = printed_for (item_words r) (name_bytes r) fuel work core text

-- both texts, with the most fuel and the largest tables
unfoldable pub output : (recipe text : List ℕ) → List ℕ
output recipe text =
    output_of fuel_most work_most core_most (read recipe item_words_least name_bytes_least) (read_elements 1 text item_words_least name_bytes_least)
