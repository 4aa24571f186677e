-- Laws of lent tables: what fills one, of words or of bytes.
use Rattle.std.specs.Prelude.{◌≡◌, refl, List, [], ℕ, ◌-◌, length, replicate}
use Rattle.std.proofs.Common.{arith}
use Rattle.words.specs.Tables.{filled, begun, left_at}

-- only the length of a table matters to what fills it
pub filled-same : (ws t u : List ℕ) → length t ≡ length u → filled ws t ≡ filled ws u
unfolding filled
filled-same ws t u e = rw e

-- a refusal that comes once a call has begun leaves zeros
pub zeros-left : (table : List ℕ) → replicate (length table) 0 ≡ left_at begun [] table
unfolding left_at filled
zeros-left table = let e : length table - 0 ≡ length table = omega arith in rw e
