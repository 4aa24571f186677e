-- Places in a tree, told by element numbers from the outermost list on: the place of a list headed by an unproduced name.
use Rattle.std.proofs.Math.Path.{◌≡◌}
use Rattle.std.proofs.Common.{◌∙◌}
use Rattle.std.specs.Prelude.{◌⊎◌, ◌&&◌}
use Rattle.std.proofs.Math.Bool.{◌||◌}
use mathlib.Core.List.{List, [], ◌∷◌, ◌++◌}
use Prim.Native.Nat.{ℕ, ◌+◌, ◌≤◌}
use Rattle.recipe.specs.Tree.{Tree, element}

-- the tree at a place
unfoldable pub sub : List ℕ → Tree → Tree
sub [] t = t
sub (k ∷ l) t = sub l (element k t)
