-- What ground 7 gives: facts of each item of a table of this layout, and the tree of each item.
use Rattle.std.specs.Prelude.{◌≡◌, Bool, ◌&&◌, ◌||◌, List, ltb, drop}
use Rattle.std.proofs.Math.Path.{refl, sym}
use Rattle.std.proofs.Common.{ap, ◌∙◌, arith}
use Rattle.std.proofs.Math.Bool.{true, false}
use Prim.Native.Nat.{ℕ, suc, ◌*◌, ◌<◌, ◌≤◌}
use Rattle.std.proofs.Math.Dec.{eqb}
use Rattle.std.proofs.Math.ListN.{length}
use borrow.Author.Tests.{eqb-true, eqb-false, ltb-true}
use Rattle.words.specs.Limits.{names_most}
use Rattle.words.specs.Lists.{all_of}
use Rattle.words.specs.TestLaws.{and_left, and_right, all_head, all_drop}
use Rattle.recipe.specs.Name.{plain_name}
use Rattle.recipe.specs.Tree.{empty, constant, name, pair, is_list, is_list_of, elements, element}
use Rattle.recipe.specs.Table.{items, by_kind, constant_of, kind_at, is_item, tree_of, item_count, is_layout}
use Rattle.recipe.specs.ItemLaws.{item_at, items-drop}
use Rattle.recipe.proofs.TableLaws.{is_pair_item-parts, is_layout-parts, is_item-pair}
use Rattle.recipe.specs.TreeFrom.{tree_from, head_at, tail_at, from_empty, from-name, from-pair, from-constant, from-is_list}
use Rattle.recipe.specs.Layout.{Layout, PairItem, Root, is_list_kind}

-- ---- one item, whose words are those of its kind

module _ (ws : List ℕ) (n i : ℕ) (good : is_item ws n (item_at ws i) ≡ true) (h : i < n) where
  pub pair_item : kind_at ws i ≡ 4 → PairItem ws n i
  unfolding item_at head_at tail_at kind_at is_list_kind
  pair_item k =
      let p = is_pair_item-parts ws n (item_at ws i) (is_item-pair ws n (item_at ws i) good k) in
      record {
        head_above = p.head.above;
        head_below = omega (arith, p.head.below);
        tail_above = p.tail.above;
        tail_below = omega (arith, p.tail.below);
        tail_kind = p.tail-kind;
      }

  pub name_item : kind_at ws i ≡ 3 → head_at ws i < names_most
  unfolding is_item item_at by_kind head_at tail_at kind_at
  name_item k =
      let g : (ltb (head_at ws i) names_most && eqb (tail_at ws i) 0) ≡ true = rw k at good in
      ltb-true (head_at ws i) names_most (and_left _ _ g)

-- every item of a table that passes the test of items passes it
pub item_good : (ws : List ℕ) (n : ℕ) → length ws ≡ 3 * n → all_of (is_item ws n) (items 0 ws) ≡ true → (i : ℕ) → i < n → is_item ws n (item_at ws i) ≡ true
item_good ws n e g i h = all_head (is_item ws n) (item_at ws i) (drop (suc i) (items 0 ws)) (rw (items-drop ws n i e h) at (all_drop (is_item ws n) i (items 0 ws) g))

-- ---- a table whose items all pass that test

module _ (ws : List ℕ) (n : ℕ) (e : length ws ≡ 3 * n) (good : (i : ℕ) → i < n → is_item ws n (item_at ws i) ≡ true) where
  pub good_pair : (i : ℕ) → i < n → kind_at ws i ≡ 4 → PairItem ws n i
  good_pair i h k = pair_item ws n i (good i h) h k

  pub good_pair_tree : (i : ℕ) → i < n → kind_at ws i ≡ 4 → tree_from ws i ≡ pair (tree_from ws (head_at ws i)) (tree_from ws (tail_at ws i))
  good_pair_tree i h k = let p = good_pair i h k in from-pair ws n i e h k p.head_above p.tail_above

  -- how many elements item i begins
  pub spine-more : (i m : ℕ) → i < n → kind_at ws i ≡ 4 → length (elements (tree_from ws (tail_at ws i))) ≡ m → length (elements (tree_from ws i)) ≡ suc m
  unfolding elements
  spine-more i m h k q = rw (good_pair_tree i h k, q)

  pub spine-end : (i : ℕ) → i < n → (kind_at ws i ≡ 4 → ⊥) → length (elements (tree_from ws i)) ≡ 0
  unfolding elements
  spine-end i h k = by (eqb (kind_at ws i) 0) refl (eqb (kind_at ws i) 3) refl
    where
      by : (a : Bool) → eqb (kind_at ws i) 0 ≡ a → (b : Bool) → eqb (kind_at ws i) 3 ≡ b → length (elements (tree_from ws i)) ≡ 0
      by true p b q = rw (from_empty ws n i e h (eqb-true (kind_at ws i) 0 p))
      by false p true q = rw (from-name ws n i e h (eqb-true (kind_at ws i) 3 q))
      by false p false q = rw (from-constant ws n i e h (eqb-false (kind_at ws i) 0 p) (eqb-false (kind_at ws i) 3 q) k)

-- ---- ground 7

pub layout : (ws : List ℕ) → is_layout ws ≡ true → Layout ws
layout ws l =
    let p = is_layout-parts ws l in
    record { long = p.words; least = p.count.0; most = p.count.1; good = item_good ws (item_count ws) p.words p.item; two = p.two; first = p.first }

-- the tree of item i, by its kind
module _ (ws : List ℕ) (l : Layout ws) (i : ℕ) (h : i < item_count ws) where
  pub layout_pair : kind_at ws i ≡ 4 → PairItem ws (item_count ws) i
  layout_pair k = good_pair ws (item_count ws) l.long l.good i h k

  pub layout_name : kind_at ws i ≡ 3 → head_at ws i < names_most
  layout_name k = name_item ws (item_count ws) i (l.good i h) h k

  pub empty_tree : kind_at ws i ≡ 0 → tree_from ws i ≡ empty
  empty_tree k = from_empty ws (item_count ws) i l.long h k

  pub name_tree : kind_at ws i ≡ 3 → tree_from ws i ≡ name (plain_name (head_at ws i) i)
  name_tree k = from-name ws (item_count ws) i l.long h k

  pub pair_tree : kind_at ws i ≡ 4 → tree_from ws i ≡ pair (tree_from ws (head_at ws i)) (tree_from ws (tail_at ws i))
  pair_tree k = good_pair_tree ws (item_count ws) l.long l.good i h k

  pub constant_tree : (kind_at ws i ≡ 0 → ⊥) → (kind_at ws i ≡ 3 → ⊥) → (kind_at ws i ≡ 4 → ⊥) → tree_from ws i ≡ constant (constant_of (item_at ws i))
  constant_tree a b c = from-constant ws (item_count ws) i l.long h a b c

-- ---- item 0 begins the list of the two elements

module _ (ws : List ℕ) (l : Layout ws) where
  -- item i begins at least one element
  is_pair : (i m : ℕ) → i < item_count ws → length (elements (tree_from ws i)) ≡ suc m → kind_at ws i ≡ 4
  is_pair i m h s = by (eqb (kind_at ws i) 4) refl
    where
      by : (b : Bool) → eqb (kind_at ws i) 4 ≡ b → kind_at ws i ≡ 4
      by true q = eqb-true (kind_at ws i) 4 q
      by false q = absurd (omega (arith, s, spine-end ws (item_count ws) l.long l.good i h (eqb-false (kind_at ws i) 4 q)))

  pub root : Root ws
  unfolding is_list_of tree_of tree_from elements element is_list_kind
  root =
      let z : 0 < item_count ws = omega (arith, l.least) in
      let s : length (elements (tree_from ws 0)) ≡ 2 = eqb-true (length (elements (tree_from ws 0))) 2 (and_right (is_list (tree_from ws 0)) (eqb (length (elements (tree_from ws 0))) 2) l.two) in
      let k : kind_at ws 0 ≡ 4 = is_pair 0 1 z s in
      let p : PairItem ws (item_count ws) 0 = layout_pair ws l 0 z k in
      let t : tree_from ws 0 ≡ pair (tree_from ws (head_at ws 0)) (tree_from ws (tail_at ws 0)) = pair_tree ws l 0 z k in
      let s2 : suc (length (elements (tree_from ws (tail_at ws 0)))) ≡ 2 = rw t at s in
      let k2 : kind_at ws (tail_at ws 0) ≡ 4 = is_pair (tail_at ws 0) 0 p.tail_below (omega (arith, s2)) in
      let e0 : element 0 (tree_of ws) ≡ tree_from ws (head_at ws 0) = rw t in
      record {
        kind = k;
        kind2 = k2;
        below = p.head_below;
        list_kind = sym (ap is_list e0 ∙ from-is_list ws (item_count ws) (head_at ws 0) l.long p.head_below) ∙ l.first;
        element0 = e0;
      }
