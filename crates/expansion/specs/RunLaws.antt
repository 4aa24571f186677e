-- What holds of a run holds where it is refused before it begins and of the end of its expansion.
use Rattle.std.specs.Prelude.{◌≡◌, List, [], ℕ, ◌+◌, ◌*◌, ◌≤◌}
use Rattle.std.proofs.Common.{◌∙◌}
use Rattle.std.proofs.Math.Bool.{true}
use Rattle.words.specs.Limits.{fuel_most, work_rate, core_rate}
use Rattle.words.specs.Tables.{Stage, testing, begun}
use Rattle.recipe.specs.Table.{item_count, is_layout, tree_of}
use Rattle.expansion.specs.Run.{are_operations}

-- ---- claims about runs

-- the grounds of each stage
abbrev pub GroundIn : Stage → ℕ → Type 0
GroundIn testing g = (7 ≤ g) × (g ≤ 10)
GroundIn begun g = (11 ≤ g) × (g ≤ 18)

-- the tests of grounds 7 to 10 are passed
pub record Begun (items : List ℕ) (fuel work core : ℕ) : Type 0 where
  pub layout : is_layout items ≡ true
  pub fuelled : fuel ≤ fuel_most
  pub work-room : work_rate * (item_count items + fuel) ≤ work
  pub core-room : core_rate * (item_count items + fuel) ≤ core
  pub operations : are_operations (tree_of items) ≡ true
