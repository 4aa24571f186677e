-- Binding variables to the values of rows: what it asks, and what it gives.
use Rattle.std.specs.Prelude.{◌≡◌, List, ℕ, ◌+◌, ◌*◌, ◌≤◌, ◌<◌, length}
use Rattle.runner.specs.Domain.{Number}
use Rattle.evaluation.specs.Evaluate.{Value, Environment, bind}
use Rattle.runner.specs.declared.rows.Extended.{Extended}
use Rattle.runner.specs.Rows.{EnvironmentIs, ValuesIn}
use Rattle.runner.specs.Kept.{Kept}

-- rows for the values and for as many cells more; rows are numbered by words
pub record Extends (t : List ℕ) (cells e from count : ℕ) : Type 0 where
  pub below : e ≤ cells
  pub room : 16 * (cells + count) ≤ length t
  pub values : 16 * (from + count) ≤ length t
  pub numbered : cells + count < 4294967296

-- after it, nothing of the rows in use is changed, and the environment has the variables before those that it had
pub record ExtendedBy (t : List ℕ) (cells e first from count : ℕ) (t' : List ℕ) (r : Extended) : Type 0 where
  pub below : r.environment ≤ r.cells
  pub more : cells ≤ r.cells
  pub most : r.cells ≤ cells + count
  pub kept : (values frames : ℕ) → Kept values frames cells t t'
  pub means : (ws : List ℕ) (vs : List (Value Number)) (env : Environment Number) → length vs ≡ count → ValuesIn ws t cells from vs
      → EnvironmentIs ws t e env → EnvironmentIs ws t' r.environment (bind first vs env)
