-- The promise of the writing service: its numbers and every byte of the output are the definition's, for every call.
use Rattle.std.specs.Prelude.{◌≡◌, ℕ, ◌*◌, Bool, ◌&&◌, List, length, nat_le}
use Rattle.std.proofs.Math.Option.{Option}
use Rattle.core_term.specs.TextRoom.{text_rate, text_words_most}
use Rattle.std.specs.Prelude.{Result}
use Rattle.words.specs.declared.ground.Ground.{Ground}
use Rattle.writer.specs.Writing.{ground_of, length_of, outcome, ground_number, size, after}

-- what a call answers and leaves, where its words have this text or, without one, are no term
pub record Wrote (x : Option (List ℕ)) (out out' : List ℕ) (r : Result ℕ Ground) : Type 0 where
  pub number : ground_of r ≡ ground_number (outcome out x)
  pub value : length_of r ≡ size (outcome out x)
  pub left : out' ≡ after (outcome out x) out

-- ---- whether a text fits, which is known before a byte is laid

-- bytes that hold the text of any term of so many words
unfoldable pub has_room : ℕ → ℕ → Bool
has_room words bytes = nat_le words text_words_most && nat_le (text_rate * words) bytes

-- whether a text fits, told with the output left as it was
pub record Measured (x out out' : List ℕ) (fits : Bool) : Type 0 where
  pub told : fits ≡ nat_le (length x) (length out)
  pub left : out' ≡ out
