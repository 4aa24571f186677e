-- The tree of each item, by the words of that item: how to walk the tree of a table through its references.
use Rattle.std.specs.Prelude.{◌≡◌, Bool, ◌||◌, length, drop}
use Rattle.std.proofs.Math.Path.{refl, sym, ap}
use Rattle.std.proofs.Common.{ap₂, ◌∙◌, get_or-drop}
use Rattle.std.proofs.Math.Bool.{true, false}
use mathlib.Core.List.{List, [], ◌∷◌}
use Prim.Native.Nat.{ℕ, zero, suc, ◌+◌, ◌-◌, ◌*◌, ◌<◌}
use native.Mathlib.Omega.{arith}
use Rattle.std.proofs.Math.Dec.{eqb}
use Rattle.std.proofs.Math.ListN.{get_or}
use borrow.Author.Tests.{ne_eqb, eqb-true}
use Rattle.recipe.specs.Name.{plain_name}
use Rattle.recipe.specs.Tree.{Tree, empty, constant, name, pair, is_list, on_empty, on_pair}
use Rattle.recipe.specs.Table.{Item, items, by_kind, constant_of, kind_at, trees, tree_of}
use Rattle.recipe.specs.ItemLaws.{item_at, items-drop}

-- the tree of item i
unfoldable pub tree_from : List ℕ → ℕ → Tree
tree_from ws i = get_or (trees (items 0 ws)) i empty

pub tree_of-from : (ws : List ℕ) → tree_of ws ≡ tree_from ws 0
unfolding tree_of tree_from
tree_of-from ws = refl

-- the two references of item i
unfoldable pub head_at : List ℕ → ℕ → ℕ
head_at ws i = get_or ws (3 * i + 1) 0

unfoldable pub tail_at : List ℕ → ℕ → ℕ
tail_at ws i = get_or ws (3 * i + 2) 0

-- ---- trees

trees-drop : (i : ℕ) (xs : List Item) → drop i (trees xs) ≡ trees (drop i xs)
unfolding trees
trees-drop zero xs = refl
trees-drop (suc i) [] = refl
trees-drop (suc i) (x ∷ xs) = trees-drop i xs

-- ---- one item of a table of n items

module _ (ws : List ℕ) (n i : ℕ) (e : length ws ≡ 3 * n) (h : i < n) where
  later : List Tree
  later = trees (drop (suc i) (items 0 ws))

  node : Tree
  node =
      by_kind (kind_at ws i) empty (name (plain_name (head_at ws i) i))
      (pair (get_or later (head_at ws i - suc i) empty) (get_or later (tail_at ws i - suc i) empty)) (constant (constant_of (item_at ws i)))

  from-node : tree_from ws i ≡ node
  unfolding tree_from trees node later item_at kind_at head_at tail_at
  from-node =
      let s : i + 0 ≡ i = omega arith in
      let d : get_or (drop i (trees (items 0 ws))) 0 empty ≡ get_or (trees (items 0 ws)) i empty = rw s at (get_or-drop i (trees (items 0 ws)) 0 empty) in
      sym d ∙ ap (λ (l : List Tree). get_or l 0 empty) (trees-drop i (items 0 ws) ∙ ap trees (items-drop ws n i e h))

  from-later : (j : ℕ) → i < j → get_or later (j - suc i) empty ≡ tree_from ws j
  unfolding tree_from later
  from-later j l =
      let s : suc i + (j - suc i) ≡ j = omega arith in
      ap (λ (l : List Tree). get_or l (j - suc i) empty) (sym (trees-drop (suc i) (items 0 ws)))
      ∙ (get_or-drop (suc i) (trees (items 0 ws)) (j - suc i) empty ∙ ap (λ (m : ℕ). get_or (trees (items 0 ws)) m empty) s)

  pub from_empty : kind_at ws i ≡ 0 → tree_from ws i ≡ empty
  unfolding node by_kind
  from_empty k = from-node ∙ rw k

  pub from-name : kind_at ws i ≡ 3 → tree_from ws i ≡ name (plain_name (head_at ws i) i)
  unfolding node by_kind
  from-name k = from-node ∙ rw k

  pub from-pair : kind_at ws i ≡ 4 → i < head_at ws i → i < tail_at ws i → tree_from ws i ≡ pair (tree_from ws (head_at ws i)) (tree_from ws (tail_at ws i))
  unfolding node by_kind
  from-pair k a b = from-node ∙ rw k (ap₂ pair (from-later (head_at ws i) a) (from-later (tail_at ws i) b))

  pub from-constant : (kind_at ws i ≡ 0 → ⊥) → (kind_at ws i ≡ 3 → ⊥) → (kind_at ws i ≡ 4 → ⊥) → tree_from ws i ≡ constant (constant_of (item_at ws i))
  unfolding node by_kind
  from-constant a b c = from-node ∙ rw (ne_eqb _ _ a, ne_eqb _ _ b, ne_eqb _ _ c)

  -- it is a list exactly when its kind is that of a list
  pub from-is_list : is_list (tree_from ws i) ≡ (eqb (kind_at ws i) 0 || eqb (kind_at ws i) 4)
  unfolding node by_kind is_list on_empty on_pair
  from-is_list = by (eqb (kind_at ws i) 0) refl (eqb (kind_at ws i) 3) refl (eqb (kind_at ws i) 4) refl
    where
      by : (a : Bool) → eqb (kind_at ws i) 0 ≡ a → (b : Bool) → eqb (kind_at ws i) 3 ≡ b → (c : Bool) → eqb (kind_at ws i) 4 ≡ c →
          is_list (tree_from ws i) ≡ (eqb (kind_at ws i) 0 || eqb (kind_at ws i) 4)
      by true p b q c r = rw (from-node, p)
      by false p true q true r = absurd (omega (arith, eqb-true (kind_at ws i) 3 q, eqb-true (kind_at ws i) 4 r))
      by false p true q false r = rw (from-node, p, q, r)
      by false p false q true r = rw (from-node, p, q, r)
      by false p false q false r = rw (from-node, p, q, r)
