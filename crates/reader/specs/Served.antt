-- The promise of the reading service: its numbers and both tables are those of the definition, for every text and every pair of lent tables.
use Rattle.std.specs.Prelude.{◌≡◌, List, ℕ, length, Result, Ok, Err}
use Rattle.words.specs.Code.Ground.{number_of}
use Rattle.words.specs.declared.ground.Ground.{Ground}
use Rattle.reader.specs.declared.Counts.{Counts}
use Rattle.reading.specs.Elements.{Answer}
use Rattle.reading.specs.Read.{Recipe, read_elements, read, Numbers, read_numbers, items_after, names_after}

-- this paper's numbers for each answer
unfoldable pub numbers_of : Result Counts Ground → Numbers
numbers_of (Ok c) = record { ground_number = 0; items = c.items; names = c.names }
numbers_of (Err g) = record { ground_number = number_of g; items = 0; names = 0 }

-- what a call answers and leaves in two lent tables, by the definition's answer
pub record Gives (a : Answer Recipe) (words words' bytes bytes' : List ℕ) (r : Result Counts Ground) : Type 0 where
  pub numbers : numbers_of r ≡ read_numbers a
  pub items : words' ≡ items_after a words
  pub names : bytes' ≡ names_after a bytes

-- a call on a text of so many elements
abbrev pub ServedElements : ℕ → List ℕ → List ℕ → List ℕ → List ℕ → List ℕ → Result Counts Ground → Type 0
ServedElements wanted text words words' bytes bytes' = Gives (read_elements wanted text (length words) (length bytes)) words words' bytes bytes'

-- a call on a recipe text
abbrev pub Served : List ℕ → List ℕ → List ℕ → List ℕ → List ℕ → Result Counts Ground → Type 0
Served text words words' bytes bytes' = Gives (read text (length words) (length bytes)) words words' bytes bytes'
