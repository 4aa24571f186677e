-- The name table: name n has 64 bytes from 64 × n, a length byte, its bytes, zeros.
use Rattle.std.specs.Prelude.{Bool, ◌&&◌, List, [], ◌∷◌, ◌++◌, ℕ, suc, ◌*◌, ◌-◌, ltb, leb, length, get_or, take, drop, replicate}
use Rattle.words.specs.Limits.{names_most, name_length_most, slot_size}
use Rattle.words.specs.Lists.{within}

-- a name's slot
unfoldable pub slot : List ℕ → List ℕ
slot cs = length cs ∷ (cs ++ replicate (name_length_most - length cs) 0)

-- the slots of names in number order
unfoldable pub slots : List (List ℕ) → List ℕ
slots [] = []
slots (cs ∷ names) = slot cs ++ slots names

-- the length byte of name n
unfoldable pub length_at : List ℕ → ℕ → ℕ
length_at table n = get_or table (slot_size * n) 0

-- the spelling of name n
unfoldable pub name_at : List ℕ → ℕ → List ℕ
name_at table n = take (length_at table n) (drop (suc (slot_size * n)) table)

-- name n is below 1,024 and its slot is there, of length 1 to 63 (ground 19)
unfoldable pub has_name : List ℕ → ℕ → Bool
has_name table n = ltb n names_most && (leb (slot_size * suc n) (length table) && within 1 name_length_most (length_at table n))
