-- An accepted recipe is written: proved, and tried on a recipe whose term has a private name, a quoted one, an operation and a decimal.
use Rattle.std.specs.Prelude.{◌≡◌, refl, true, List, [], ℕ}
use Rattle.words.specs.Limits.{item_words_least, name_bytes_least, filing_fuel, filing_work, filing_core}
use Rattle.words.specs.Lists.{all_of}
use Rattle.datum.specs.NameTable.{has_name}
use Rattle.reading.specs.Elements.{got}
use Rattle.reading.specs.Read.{Recipe, read, item_words, name_bytes}
use Rattle.reading_layout.specs.Named.{read_named}
use Rattle.recipe.specs.Table.{tree_of}
use Rattle.expansion.specs.Run.{accepted, operation_numbers, run}
use Rattle.expansion.specs.Computed.{computed}
use Rattle.expansion.proofs.Bounds.Gas.{accepted-begun}
use Rattle.expansion.specs.CoreTerm.{CoreTerm, Named}
use Rattle.expansion.proofs.CoreTermLaws.{operations-named, named-term, named-term-within}
use Rattle.output.specs.Written.{operation_count, AcceptedIsWritten, WrittenWithMore}
use Rattle.output.specs.WrittenLaws.{row, row_recipe}

-- every name of a reading's items is in its own table
pub recipe-named : (text : List ℕ) (items names : ℕ) (recipe : Recipe) → read text items names ≡ got recipe → Named (has_name (name_bytes recipe)) (item_words recipe)
unfolding read
recipe-named = read_named 2

pub accepted-is-written : AcceptedIsWritten
unfolding AcceptedIsWritten operation_count
accepted-is-written text items names recipe h = named-term (has_name (name_bytes recipe)) (item_words recipe) (recipe-named text items names recipe h)

pub written-with-more : WrittenWithMore
unfolding WrittenWithMore operation_count
written-with-more text items names recipe h = named-term-within (has_name (name_bytes recipe)) (item_words recipe) (recipe-named text items names recipe h)

-- the recipe's operations are in the table too
pub operations-written : (text : List ℕ) (items names : ℕ) (recipe : Recipe) → read text items names ≡ got recipe → (fuel work core : ℕ)
    → (run (item_words recipe) fuel work core).outcome ≡ accepted → all_of (has_name (name_bytes recipe)) (operation_numbers (tree_of (item_words recipe))) ≡ true
operations-written text items names recipe h fuel work core e =
    operations-named (has_name (name_bytes recipe)) (item_words recipe) (recipe-named text items names recipe h) (accepted-begun (item_words recipe) fuel work core e).layout

-- ---- a row

row_read : read row item_words_least name_bytes_least ≡ got row_recipe
unfolding row_recipe
row_read = refl

row-accepted : (run (item_words row_recipe) filing_fuel filing_work filing_core).outcome ≡ accepted
unfolding row_recipe item_words computed
row-accepted = refl

pub row_written : CoreTerm 1 (has_name (name_bytes row_recipe)) (run (item_words row_recipe) filing_fuel filing_work filing_core)
unfolding AcceptedIsWritten operation_count row_recipe item_words computed
row_written = accepted-is-written row item_words_least name_bytes_least row_recipe row_read filing_fuel filing_work filing_core row-accepted
