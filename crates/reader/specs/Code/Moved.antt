-- What reading does with the next token: it goes on or turns the text back, and at the end it is done, as the definition is.
use Rattle.std.specs.Prelude.{◌≡◌, ◌&&◌, cond, List, ℕ, ◌+◌, ◌≤◌, ◌<◌, eqb, length, Result, Ok, Err}
use Rattle.words.specs.Code.Ground.{number_of}
use Rattle.words.specs.declared.ground.Ground.{Ground}
use Rattle.words.specs.declared.ground.Ground.TheVariants as G
use Rattle.datum.specs.Datum.{data_items}
use Rattle.reader.specs.declared.place.Place.{Place}
use Rattle.reader.specs.declared.Counts.{Counts}
use Rattle.reading.specs.Elements.{Answer, got, refused_for, then, Reading, takes_all}
use Rattle.reading.specs.Read.{Recipe, finished, item_words, name_bytes}
use Rattle.words.specs.Tables.{filled, begun}
use Rattle.lexer.specs.Told.{meanings_from}
use Rattle.reader.specs.Code.Index.{Indexed}
use Rattle.reader.specs.Code.Placed.{Holds}

-- the end of the text
unfoldable pub counts_of : Place → Result Counts Ground
counts_of p = cond (eqb p.depth 0 && eqb p.missing 0) (Ok (record { items = p.next + 1; names = p.known })) (Err G.Unbalanced)

-- the outcome of reading on from a place in the text
unfoldable pub outcome_from : List ℕ → ℕ → Reading → Answer Recipe
outcome_from text at r = then (takes_all (meanings_from text at) r) finished

-- it goes on, with another reading and the same outcome
pub record Onward (text : List ℕ) (at : ℕ) (r : Reading) (p : Place) (to : ℕ) (words bytes index : List ℕ) : Type 0 where
  pub next : Reading
  pub holds : Holds next p words bytes
  pub indexed : Indexed next.known index
  pub low : at < to
  pub high : to ≤ length text
  pub same : outcome_from text at r ≡ outcome_from text to next

-- it is done: the outcome is a recipe, whose items and names the tables hold
pub record Whole (outcome : Answer Recipe) (c : Counts) (words bytes : List ℕ) : Type 0 where
  pub recipe : Recipe
  pub accepted : outcome ≡ got recipe
  pub item_count : c.items ≡ data_items recipe.elements
  pub name_count : c.names ≡ length recipe.names
  pub items : words ≡ filled (item_words recipe) words
  pub names : bytes ≡ filled (name_bytes recipe) bytes

-- what the code comes to at the end, by the outcome
abbrev pub Outcome : Answer Recipe → List ℕ → List ℕ → Result Counts Ground → Type 0
Outcome outcome words bytes (Ok c) = Whole outcome c words bytes
Outcome outcome words bytes (Err g) = outcome ≡ refused_for begun (number_of g)

-- what a step says of a reading r at a place in the text, the next place being given
abbrev pub Moved : List ℕ → ℕ → Reading → ℕ → List ℕ → List ℕ → List ℕ → Result Place Ground → Type 0
Moved text at r next words bytes index (Ok p) = Onward text at r p next words bytes index
Moved text at r next words bytes index (Err g) = outcome_from text at r ≡ refused_for begun (number_of g)
