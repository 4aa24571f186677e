-- What looking a variable up answers.
use Rattle.std.specs.Prelude.{List, ℕ, ◌*◌, ◌≤◌, length}
use Rattle.std.specs.Prelude as P
use Rattle.std.proofs.Math.Option.{Option, none, some}
use Rattle.runner.specs.Domain.{Number}
use Rattle.evaluation.specs.Evaluate.{Value, Environment}
use Rattle.runner.specs.declared.rows.Value as R
use Rattle.runner.specs.Rows.{ValueIs, EnvironmentIs}

-- rows for the cells of an environment that means something
pub record Bound (t : List ℕ) (e : ℕ) : Type 0 where
  pub words : List ℕ
  pub environment : Environment Number
  pub is : EnvironmentIs words t e environment
  pub rows : 16 * e ≤ length t

-- the value's words, with the variable's value
abbrev pub FoundIs : (ws t : List ℕ) (top : ℕ) → Option (Value Number) → P.Option R.Value → Type 0
FoundIs ws t top none (P.Some v) = ⊥
FoundIs ws t top none P.None = Unit {0}
FoundIs ws t top (some x) (P.Some v) = ValueIs ws t top v x
FoundIs ws t top (some x) P.None = ⊥
