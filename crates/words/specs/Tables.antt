-- Lent tables.
use Rattle.std.specs.Prelude.{List, ◌++◌, ℕ, ◌-◌, length, replicate}

-- words, then zeros to the end of a table
unfoldable pub filled : List ℕ → List ℕ → List ℕ
filled ws table = ws ++ replicate (length table - length ws) 0

-- a call tests what it is lent, and then begins: a refusal says at which of the two stages it came
pub data Stage : Type 0 where
  testing begun : Stage

-- a lent table after a call, by the stage that the call has come to: a test touches nothing, and from then on a table is left with
-- the words that it is to hold, none where the call is refused
unfoldable pub left_at : Stage → List ℕ → List ℕ → List ℕ
unfolding filled
left_at testing ws table = table
left_at begun ws table = filled ws table
