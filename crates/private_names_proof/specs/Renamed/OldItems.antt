-- The items of the private name, among the names of a tree; and that no variable has a number that no name has.
use Rattle.std.specs.Prelude.{◌≡◌, Bool, ◌||◌, ℕ, ◌+◌, ◌≤◌}
use Rattle.std.proofs.Common.{◌∙◌}
use Rattle.std.proofs.Math.Bool.{◌&&◌}
use mathlib.Core.List.{[], ◌∷◌}
use Rattle.std.proofs.Math.Dec.{eqb}
use Rattle.recipe.specs.Name.{Name}

module _ (o : ℕ) where
  -- a name of the old number that stems from item i
  unfoldable pub is_old : ℕ → Name → Bool
  is_old i x = eqb x.number o && eqb x.item i
