-- Trees that differ in one place.
use Rattle.std.specs.Prelude.{◌≡◌, refl, ◌⊎◌, List, [], ◌∷◌}
use Rattle.std.proofs.Common.{ap, inr}
use Rattle.std.proofs.Math.Logic.{inl}
use Prim.Native.Nat.{ℕ, zero, suc}
use Rattle.recipe.specs.Name.{Name}
use Rattle.recipe.specs.Tree.{Tree, elements, element, on_names}
use Rattle.simulation.specs.Relations.{ListRel, joins}
use Rattle.simulation.proofs.RelationsLaws.{list-map}
use Rattle.simulation.specs.Shapes.{TreeOf, empties, constants, names₂, pairs}
use Rattle.simulation.proofs.ShapesLaws.{tree_map, elements-rel, element-rel, on_names-rel}
use Rattle.simulation.specs.Form.Holes.{Hole, first, here, later}

pub hole-tree : {S R : Name → Name → Type 0} {T : Tree → Tree → Type 0} {p : List ℕ} → ((x y : Name) → S x y → R x y) → ((t u : Tree) → T t u → TreeOf R t u) → {t u : Tree} → Hole S T p t u → TreeOf R t u
hole-tree f g (here r) = g _ _ r
hole-tree f g (first r s) = pairs (hole-tree f g r) (tree_map f s)
hole-tree f g (later s r) = pairs (tree_map f s) (hole-tree f g r)

pub hole-on_names : {S S' : Name → Name → Type 0} {T T' : Tree → Tree → Type 0} {p : List ℕ} (m : Name → Name) → ((x y : Name) → S x y → S' (m x) (m y)) → ((t u : Tree) → T t u → T' (on_names m t) (on_names m u)) → {t u : Tree} → Hole S T p t u → Hole S' T' p (on_names m t) (on_names m u)
unfolding on_names
hole-on_names m f g (here r) = here (g _ _ r)
hole-on_names m f g (first r s) = first (hole-on_names m f g r) (on_names-rel m m f s)
hole-on_names m f g (later s r) = later (on_names-rel m m f s) (hole-on_names m f g r)

-- each tree beside what a map of names makes of it
pub graph : {S R : Name → Name → Type 0} (m : Name → Name) → ((x y : Name) → S x y → R x (m x)) → {t u : Tree} → TreeOf S t u → TreeOf R t (on_names m t)
unfolding on_names
graph m f empties = empties
graph m f constants = constants
graph m f (names₂ s) = names₂ (f _ _ s)
graph m f (pairs r s) = pairs (graph m f r) (graph m f s)

pub hole-graph : {S R : Name → Name → Type 0} {T : Tree → Tree → Type 0} {p : List ℕ} (m : Name → Name) → ((x y : Name) → S x y → R x (m x)) → ((t u : Tree) → T t u → TreeOf R t (on_names m t)) → {t u : Tree} → Hole S T p t u → TreeOf R t (on_names m t)
unfolding on_names
hole-graph m f g (here r) = g _ _ r
hole-graph m f g (first r s) = pairs (hole-graph m f g r) (graph m f s)
hole-graph m f g (later s r) = pairs (graph m f s) (hole-graph m f g r)

-- ---- elements

module _ {S : Name → Name → Type 0} {T : Tree → Tree → Type 0} where
  pub hole-here : {t u : Tree} → Hole S T [] t u → T t u
  hole-here (here r) = r

  -- each element is related by S, or has the place in it
  pub hole-elements : {k : ℕ} {p : List ℕ} {t u : Tree} → Hole S T (k ∷ p) t u → ListRel (λ t u. TreeOf S t u ⊎ Hole S T p t u) (elements t) (elements u)
  unfolding elements
  hole-elements (first r s) = joins (inr r) (list-map (λ t u q. inl q) (elements-rel s))
  hole-elements (later s r) = joins (inl s) (hole-elements r)

  -- the element with the place, and any other
  pub hole-at : {k : ℕ} {l : List ℕ} {t u : Tree} → Hole S T (k ∷ l) t u → Hole S T l (element k t) (element k u)
  unfolding element elements
  hole-at (first r s) = r
  hole-at (later s r) = hole-at r

  pub hole-off : {k : ℕ} {l : List ℕ} {t u : Tree} → Hole S T (k ∷ l) t u → (i : ℕ) → (i ≡ k → ⊥) → TreeOf S (element i t) (element i u)
  unfolding element elements
  hole-off (first r s) zero d = absurd (d refl)
  hole-off (first r s) (suc i) d = element-rel i s
  hole-off (later s r) zero d = s
  hole-off (later s r) (suc i) d = hole-off r i (λ e. d (ap suc e))
