-- Laws of item tables: what ground 7 tells of a table, and that each place but 0 is referred to by one word, from a lower place.
use Rattle.std.specs.Prelude.{◌≡◌, true, ◌||◌, List, [], ◌∷◌, ℕ, suc, ◌+◌, ◌*◌, ◌-◌, ◌≤◌, ◌<◌, eqb, length}
use Rattle.std.proofs.Common.{◌∙◌}
use Rattle.words.specs.Limits.{items_least, items_most}
use Rattle.words.specs.Lists.{all_of}
use Rattle.recipe.specs.Tree.{is_list, is_list_of, element}
use Rattle.recipe.specs.Table.{Item, items, references, kind_at, is_item, is_referred_once, tree_of, item_count}

-- ---- a pair's words

-- place i refers to a higher item, j
pub record Refers (n i j : ℕ) : Type 0 where
  pub above : suc i ≤ j
  pub below : j ≤ n - 1

-- what the test of a pair item says
pub record PairTest (table : List ℕ) (n : ℕ) (x : Item) : Type 0 where
  pub head : Refers n x.place x.first
  pub tail : Refers n x.place x.second
  pub tail-kind : (eqb (kind_at table x.second) 0 || eqb (kind_at table x.second) 4) ≡ true

-- ---- the layout

-- what ground 7 tests
pub record LayoutTest (ws : List ℕ) : Type 0 where
  pub words : length ws ≡ 3 * item_count ws
  pub count : (items_least ≤ item_count ws) × (item_count ws ≤ items_most)
  pub item : all_of (is_item ws (item_count ws)) (items 0 ws) ≡ true
  pub referred : all_of (is_referred_once (references (items 0 ws))) (items 0 ws) ≡ true
  pub two : is_list_of 2 (tree_of ws) ≡ true
  pub first : is_list (element 0 (tree_of ws)) ≡ true
