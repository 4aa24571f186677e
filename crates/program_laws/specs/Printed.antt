-- What a program's output function leaves.
use Rattle.std.specs.Prelude.{◌≡◌, List, ◌++◌, ℕ, ◌≤◌, length, drop}
use Rattle.program_laws.specs.Front.{front}

-- what is to be printed stands at the beginning of the output, before what was there
pub record Printed (x out out' : List ℕ) (n : ℕ) : Type 0 where
  pub size : n ≡ length x
  pub bytes : out' ≡ x ++ drop (length x) out

pub printed-within : {x out out' : List ℕ} {n : ℕ} → Printed x out out' n → n ≤ length out'
printed-within {x} {out} {out'} {n} p = (front x (drop (length x) out) out' n p.bytes p.size).0
