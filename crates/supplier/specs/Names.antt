-- Slots of name tables.
use Rattle.std.specs.Prelude.{ℕ, ◌+◌, ◌*◌, ◌≤◌, List, length}
use Rattle.words.specs.Limits.{slot_size, name_length_most}
use Rattle.datum.specs.NameTable.{length_at}

-- name n's slot is in the table and has a name's length
abbrev pub Slot : List ℕ → ℕ → Type 0
Slot table n = (slot_size * n + slot_size ≤ length table) × (length_at table n ≤ name_length_most)
