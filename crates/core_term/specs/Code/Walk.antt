-- The checker's walk in its own terms: flags, a place in the words, the variables bound so far and the terms left.
use Rattle.std.specs.Prelude.{List, ℕ, ◌-◌, length, drop, take}

-- words from a place on, as code hands them down
abbrev pub rest : ℕ → List ℕ → List ℕ
rest a s = take (length s - a) (drop a s)
