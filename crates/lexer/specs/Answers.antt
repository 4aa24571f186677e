-- What the code's enums say in document 01's terms.
use Rattle.std.specs.Prelude.{◌≡◌, Bool, cond, List, ℕ, min, length, take, Result, Ok, Err}
use Rattle.std.specs.Int.{w32}
use Rattle.std.proofs.Common.{of_z}
use Rattle.words.specs.Code.Ground.{number_of}
use Rattle.words.specs.declared.ground.Ground.{Ground}
use Rattle.lexer.specs.declared.number.Number.{Number}
use Rattle.lexer.specs.declared.number.Digits.{Digits}
use Rattle.reading.specs.Token.{is_digit}
use Rattle.reading.specs.Offset.{leading}
use Rattle.reading.specs.Meaning.{Meaning, constant, refused, are_places, value_from, number, signed}

-- a number's run: its value and places, or ground 3 or 4
abbrev pub numeral_meaning : Result Number Ground → Meaning
numeral_meaning (Ok n) = constant (number (of_z w32 n.value) n.places)
numeral_meaning (Err g) = refused (number_of g)

-- the digits that a run begins with, how many and what they spell after a number, as far as that is in range
pub record DigitsAfter (before : ℕ) (run : List ℕ) (r : Digits) : Type 0 where
  pub count : r.count ≡ leading is_digit run
  pub value : r.value ≡ min (value_from before (take r.count run)) 2147483649

-- what stands behind the dot of a number: its places, or ground 3
abbrev pub behind_dot : Bool → ℕ → List ℕ → Meaning
behind_dot negative whole cs = cond (are_places cs) (signed negative (value_from whole cs) (length cs)) (refused 3)
