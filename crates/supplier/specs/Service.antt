-- The promise of the comparison service: its answer and both of the text's tables are those of the definition, for every
-- recipe, term, text and pair of lent tables.
use Rattle.std.specs.Prelude.{◌≡◌, Bool, true, false, List, ℕ, length, Result, Ok, Err}
use Rattle.words.specs.declared.ground.Ground.{Ground}
use Rattle.words.specs.Code.Ground.{number_of}
use Rattle.reading.specs.Elements.{Answer}
use Rattle.reading.specs.Read.{Recipe, read_elements}
use Rattle.comparison.specs.Compare.{Verdict, yes, no, refused_on, Reply, compare, items_left, names_left}

unfoldable pub verdict_of : Result Bool Ground → Verdict
verdict_of (Ok true) = yes
verdict_of (Ok false) = no
verdict_of (Err g) = refused_on (number_of g)

-- what a call answers and leaves in the two tables lent for the text, by the definition's reply and reading
pub record Gives (v : Reply) (text : Answer Recipe) (words words' bytes bytes' : List ℕ) (r : Result Bool Ground) : Type 0 where
  pub verdict : verdict_of r ≡ v.verdict
  pub items : words' ≡ items_left v text words
  pub names : bytes' ≡ names_left v text bytes

-- a call: the recipe's tables, our words, the text and its two tables
abbrev pub Compared : (items names words text text_items text_items' text_names text_names' : List ℕ) → Result Bool Ground → Type 0
Compared items names words text text_items text_items' text_names text_names' =
    Gives (compare items names words text (length text_items) (length text_names)) (read_elements 1 text (length text_items) (length text_names)) text_items text_items'
    text_names text_names'
