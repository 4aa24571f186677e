-- What the loop over the tokens keeps: the rest of the text has the outcome of the whole.
use Rattle.std.specs.Prelude.{◌≡◌, List, ℕ, ◌≤◌, length, Result}
use Rattle.words.specs.declared.ground.Ground.{Ground}
use Rattle.reader.specs.declared.Counts.{Counts}
use Rattle.reader.specs.declared.place.Place.{Place}
use Rattle.reading.specs.Elements as E
use Rattle.reading.specs.Read.{elements_of}
use Rattle.reader.specs.Code.Index.{Indexed}
use Rattle.reader.specs.Code.Placed.{Holds}
use Rattle.reader.specs.Code.Moved.{outcome_from, Outcome}

-- what all tokens of a text that has so many elements come to
abbrev pub Ended : ℕ → List ℕ → List ℕ → List ℕ → Result Counts Ground → Type 0
Ended wanted text = Outcome (elements_of wanted text)

-- a place from which the rest of the text has the outcome of the whole
pub record Reached (wanted : ℕ) (text words bytes index : List ℕ) (p : Place) (at : ℕ) : Type 0 where
  pub reading : E.Reading
  pub holds : Holds reading p words bytes
  pub indexed : Indexed reading.known index
  pub high : at ≤ length text
  pub same : outcome_from text at reading ≡ elements_of wanted text
