-- An accepted recipe is written, stated over the definitions of reading, a run and ground 19. Nothing is proved here.
use Rattle.std.specs.Prelude.{◌≡◌, List, ℕ, ◌≤◌, length}
use Rattle.words.specs.Limits.{operations_most}
use Rattle.datum.specs.NameTable.{has_name}
use Rattle.reading.specs.Elements.{got}
use Rattle.reading.specs.Read.{Recipe, read, item_words, name_bytes}
use Rattle.recipe.specs.Table.{tree_of}
use Rattle.expansion.specs.Run.{accepted, operation_numbers, run}
use Rattle.expansion.specs.CoreTerm.{CoreTerm}

-- a recipe's count of operations
unfoldable pub operation_count : Recipe → ℕ
operation_count recipe = length (operation_numbers (tree_of (item_words recipe)))

-- for a text that reading accepts, and a run of its items that is accepted, the run has a term, and its words pass ground 19 as that term
-- with the reading's names and the recipe's count of operations
unfoldable pub AcceptedIsWritten : Type 0
AcceptedIsWritten =
    (text : List ℕ) (items names : ℕ) (recipe : Recipe)
    → read text items names ≡ got recipe
    → (fuel work core : ℕ)
    → (run (item_words recipe) fuel work core).outcome ≡ accepted
    → CoreTerm (operation_count recipe) (has_name (name_bytes recipe)) (run (item_words recipe) fuel work core)

-- or with a larger count
unfoldable pub WrittenWithMore : Type 0
WrittenWithMore =
    (text : List ℕ) (items names : ℕ) (recipe : Recipe)
    → read text items names ≡ got recipe
    → (fuel work core : ℕ)
    → (run (item_words recipe) fuel work core).outcome ≡ accepted
    → (operations : ℕ)
    → operation_count recipe ≤ operations
    → operations ≤ operations_most
    → CoreTerm operations (has_name (name_bytes recipe)) (run (item_words recipe) fuel work core)
