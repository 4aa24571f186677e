-- What ground 7 gives: facts of each item of a table of this layout, and the tree of each item.
use Rattle.std.specs.Prelude.{◌≡◌, Bool, ◌&&◌, ◌||◌, List}
use Rattle.std.proofs.Common.{◌∙◌}
use Rattle.std.proofs.Math.Bool.{true}
use Prim.Native.Nat.{ℕ, ◌*◌, ◌<◌, ◌≤◌}
use Rattle.std.proofs.Math.Dec.{eqb}
use Rattle.std.proofs.Math.ListN.{length}
use Rattle.words.specs.Limits.{items_least, items_most}
use Rattle.recipe.specs.Tree.{is_list, is_list_of, element}
use Rattle.recipe.specs.Table.{kind_at, is_item, tree_of, item_count}
use Rattle.recipe.specs.ItemLaws.{item_at}
use Rattle.recipe.specs.TreeFrom.{tree_from, head_at, tail_at}

-- the kind is that of a list
unfoldable pub is_list_kind : ℕ → Bool
is_list_kind k = eqb k 0 || eqb k 4

-- item i, a pair in a table of n items
pub record PairItem (ws : List ℕ) (n i : ℕ) : Type 0 where
  pub head_above : i < head_at ws i
  pub head_below : head_at ws i < n
  pub tail_above : i < tail_at ws i
  pub tail_below : tail_at ws i < n
  pub tail_kind : is_list_kind (kind_at ws (tail_at ws i)) ≡ true

-- ---- ground 7

pub record Layout (ws : List ℕ) : Type 0 where
  pub long : length ws ≡ 3 * item_count ws
  pub least : items_least ≤ item_count ws
  pub most : item_count ws ≤ items_most
  pub good : (i : ℕ) → i < item_count ws → is_item ws (item_count ws) (item_at ws i) ≡ true
  pub two : is_list_of 2 (tree_of ws) ≡ true
  pub first : is_list (element 0 (tree_of ws)) ≡ true

-- ---- item 0 begins the list of the two elements

-- the item of the first element, and the pair of the second
pub record Root (ws : List ℕ) : Type 0 where
  pub kind : kind_at ws 0 ≡ 4
  pub kind2 : kind_at ws (tail_at ws 0) ≡ 4
  pub below : head_at ws 0 < item_count ws
  pub list_kind : is_list_kind (kind_at ws (head_at ws 0)) ≡ true
  pub element0 : element 0 (tree_of ws) ≡ tree_from ws (head_at ws 0)
