-- Trees that differ in one place.
use Rattle.std.specs.Prelude.{◌≡◌, ◌⊎◌, List, [], ◌∷◌}
use Prim.Native.Nat.{ℕ, suc}
use Rattle.recipe.specs.Name.{Name}
use Rattle.recipe.specs.Tree.{Tree, pair}
use Rattle.simulation.specs.Shapes.{TreeOf}

-- related by S but for one place, told by element numbers from the outermost list on, where they are related by T
pub data Hole (S : Name → Name → Type 0) (T : Tree → Tree → Type 0) : List ℕ → Tree → Tree → Type 0 where
  here : {t u : Tree} → T t u → Hole S T [] t u
  first : {p : List ℕ} {h h' t t' : Tree} → Hole S T p h h' → TreeOf S t t' → Hole S T (0 ∷ p) (pair h t) (pair h' t')
  later : {k : ℕ} {p : List ℕ} {h h' t t' : Tree} → TreeOf S h h' → Hole S T (k ∷ p) t t' → Hole S T (suc k ∷ p) (pair h t) (pair h' t')
