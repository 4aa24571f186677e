-- Trees in which no list of an expression is headed by the unproduced name of item p, and what keeps them so.
use Rattle.std.specs.Prelude.{◌≡◌, Bool, not, ◌&&◌, eqb}
use Rattle.std.proofs.Common.{◌∙◌}
use mathlib.Core.List.{[], ◌∷◌}
use Prim.Native.Nat.{ℕ}
use Rattle.recipe.specs.Name.{Name}

module _ (p : ℕ) where
  -- the unproduced name of item p
  unfoldable pub is_at : Name → Bool
  is_at x = not x.produced && eqb x.item p
