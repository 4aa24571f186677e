-- Bytes laid into an output from a place on.
use Rattle.std.specs.Prelude.{◌≡◌, ℕ, ◌+◌, ◌<◌, ◌≤◌, Bool, true, false, List, ◌++◌, length, take, drop, Some, None}
use Rattle.std.specs.declared.option.Option.{Option}

-- the output with a text at a place, where there is ink
unfoldable pub laid : Bool → List ℕ → ℕ → List ℕ → List ℕ
laid true x at d = take at d ++ x ++ drop (at + length x) d
laid false x at d = d

-- what is left of output d once text x should stand from `at` on
pub data Left (ink : Bool) (x : List ℕ) (at : ℕ) (d e : List ℕ) : Option ℕ → Type 0 where
  done : {to : ℕ} → to ≡ at + length x → to ≤ length d → e ≡ laid ink x at d → Left ink x at d e (Some to)
  full : length d < at + length x → (ink ≡ false → e ≡ d) → Left ink x at d e None
