-- Two words in one of 64 bits.
use Rattle.std.specs.Prelude.{ℕ, ◌+◌, ◌*◌}

abbrev pub packed : ℕ → ℕ → ℕ
packed high low = 4294967296 * high + low
