-- What the program's functions leave, between the whole outputs.
use Rattle.std.specs.Prelude.{◌≡◌, true, List, ℕ, ◌+◌, ◌≤◌, ◌<◌, length, Option, Some, None}
use Rattle.writer.specs.Laid.{laid}

-- what is left of output d once text x should stand from `at` on, with a byte to spare behind it
pub data Spared (x : List ℕ) (at : ℕ) (d e : List ℕ) : Option ℕ → Type 0 where
  spared : {to : ℕ} → to ≡ at + length x → to < length d → e ≡ laid true x at d → Spared x at d e (Some to)
  crowded : length d ≤ at + length x → e ≡ d → Spared x at d e None

-- bytes that hold any output of the filing program
abbrev pub output_most : ℕ
output_most = 116736
