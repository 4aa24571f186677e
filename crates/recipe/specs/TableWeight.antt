-- A measure of trees, of which each place of a table has a share: that of the tree comes to no more than the shares of all places.
-- For each place is counted at most once, by a word that refers to it or as item 0. So the tree has no more items than the table.
use Rattle.std.specs.Prelude.{◌≡◌, [], ◌∷◌}
use Rattle.std.proofs.Common.{◌∙◌}
use Prim.Native.Nat.{ℕ, zero, suc, ◌+◌, ◌*◌, ◌-◌, ◌≤◌, ◌<◌}
use Rattle.datum.specs.Constant.{Constant}
use Rattle.recipe.specs.Name.{plain_name}
use Rattle.recipe.specs.Tree.{Tree, empty, constant, name, pair}

-- a leaf at a place has no more than the place's share, and a pair no more than that besides its parts
pub record Measure : Type 0 where
  pub measure : Tree → ℕ
  pub share : (place : ℕ) → ℕ
  pub on-empty : (i : ℕ) → measure empty ≤ share i
  pub on-constant : (i : ℕ) (a : Constant) → measure (constant a) ≤ share i
  pub on-name : (i n : ℕ) → measure (name (plain_name n i)) ≤ share i
  pub on-pair : (i : ℕ) (h t : Tree) → measure (pair h t) ≤ share i + measure h + measure t

-- the shares of n places from i
unfoldable pub shares : Measure → ℕ → ℕ → ℕ
shares μ i zero = 0
shares μ i (suc n) = μ.share i + shares μ (suc i) n
