-- The first arena: a node for each item, item i's with the reference 3 × (N - i), so that the nodes' references fall where
-- the items' rise. The root means the tree that the item table holds.
use Rattle.std.specs.Prelude.{◌≡◌, ℕ, ◌+◌, ◌-◌, ◌*◌, ◌<◌, ◌≤◌, true, List, length, take, ◌==◌, ◌≢◌, slice_index, slice_index_or, refl}
use Rattle.std.proofs.Math.Path.{sym}
use Rattle.std.proofs.Common.{ap, ap₂, ◌∙◌, arith, eqb-true}
use Rattle.std.proofs.lemmas.Bool.{eqb-false}
use Rattle.words.specs.ListLaws.{either}
use Rattle.words.specs.Limits.{names_most, items_most}
use Rattle.recipe.specs.Name.{plain_name}
use Rattle.recipe.specs.Tree.{Tree, empty, constant, name, pair}
use Rattle.recipe.specs.Table.{constant_of, kind_at, is_layout, tree_of, item_count}
use Rattle.recipe.specs.ItemLaws.{item_at}
use Rattle.recipe.specs.TreeFrom.{tree_from, head_at, tail_at, tree_of-from}
use Rattle.recipe.specs.Layout.{PairItem, Layout}
use Rattle.recipe.proofs.LayoutLaws.{layout, layout_pair, layout_name, empty_tree, name_tree, pair_tree, constant_tree}
use Rattle.arena.specs.Arena.{wrap_at, origin_name, tree_at}
use Rattle.arena.specs.ArenaLaws.{wrap_at-none, take_less}
use Rattle.arena.specs.NodeLaws.{tree_at-below}
use Rattle.arena.specs.Cells.{Room, Grown}

-- ---- definitions

-- the reference of item i's node, of n items
unfoldable pub node_of : (n i : ℕ) → ℕ
node_of n i = 3 * (n - i)

-- the last j items have their nodes
pub record Laid (ws work : List ℕ) (j : ℕ) : Type 0 where
  pub means : (i : ℕ) → i < item_count ws → item_count ws ≤ i + j → tree_at work (node_of (item_count ws) i) 0 ≡ tree_from ws i

-- what laying out one item more asks
pub record Laying (ws work : List ℕ) (count j : ℕ) : Type 0 where
  pub layout : is_layout ws ≡ true
  pub count-is : count ≡ item_count ws
  pub more : j < count
  pub fits : length ws ≤ length work
  pub laid : Laid ws work j

-- the whole table is laid out
pub record LaidOut (ws work : List ℕ) (r : ℕ) : Type 0 where
  pub end : r ≡ length ws
  pub means : tree_at work r 0 ≡ tree_of ws

-- ---- one node more

-- the node of the item before the last j
laid_next : (ws old new : List ℕ) (j : ℕ) → j < item_count ws → Laid ws old j → take (3 * j) new ≡ take (3 * j) old → tree_at new (3 * j + 3) 0 ≡ tree_from ws (item_count ws - 1 - j) → Laid ws new (j + 1)
unfolding node_of
laid_next ws old new j h l e t =
    record {
      means = λ i p q.
          either (i + j + 1 == item_count ws)
          (λ c.
          let f : i + j + 1 ≡ item_count ws = eqb-true _ _ c in
          let n : 3 * (item_count ws - i) ≡ 3 * j + 3 = omega arith in
          let m : item_count ws - 1 - j ≡ i = omega arith in
          ap (λ (k : ℕ). tree_at new k 0) n ∙ t ∙ ap (tree_from ws) m)
          (λ c.
          let f : i + j + 1 ≡ item_count ws → ⊥ = eqb-false _ _ c in
          let b : 3 * (item_count ws - i) ≤ 3 * j = omega arith in
          tree_at-below new old (3 * (item_count ws - i)) 0 (take_less new old (3 * (item_count ws - i)) (3 * j) b e) refl ∙ l.means i p (omega arith));
    }

pub most : (ws : List ℕ) → is_layout ws ≡ true → item_count ws ≤ items_most
most ws l = (layout ws l).most

module _ (ws old : List ℕ) (count j : ℕ) (l : Laying ws old count j) where
  pub laying-whole : length ws ≡ 3 * count
  laying-whole = (layout ws l.layout).long ∙ ap (λ (n : ℕ). 3 * n) (sym l.count-is)

  pub laying-most : count ≤ items_most
  laying-most = omega (arith, l.count-is, most ws l.layout)

  pub laying-room : Room old (3 * j) 3
  laying-room = record { fits = omega (arith, laying-whole, l.more, l.fits); small = omega (arith, laying-most, l.more) }

module _ (ws old new : List ℕ) (count j i r : ℕ) (l : Laying ws old count j) (i-is : i ≡ count - 1 - j) where
  abbrev table : Layout ws
  table = layout ws l.layout

  next : (tree : ℕ → Tree) → Grown tree old new (3 * j) r → tree 0 ≡ tree_from ws i → Laid ws new (j + 1)
  next tree g e =
      laid_next ws old new j (omega (arith, l.count-is, l.more)) l.laid g.kept
      (ap (λ (k : ℕ). tree_at new k 0) (sym g.end) ∙ g.means 0 (omega arith) ∙ e ∙ ap (tree_from ws) (omega (arith, i-is, l.count-is)))

  i-within : i < item_count ws
  i-within = omega (arith, i-is, l.more, l.count-is)

  pub laid-empty : slice_index_or ws (3 * i) 0 ≡ 0 → Grown (λ w. empty) old new (3 * j) r → Laid ws new (j + 1)
  unfolding kind_at
  laid-empty e g = next (λ w. empty) g (sym (empty_tree ws table i i-within e))

  pub laid-name : (origin : ℕ) → slice_index ws (3 * i) ≡ 3 → origin_name origin ≡ plain_name (slice_index ws (3 * i + 1)) i → Grown (λ w. name (wrap_at old w (wrap_at old 0 (origin_name origin)))) old new (3 * j) r → Laid ws new (j + 1)
  unfolding kind_at head_at
  laid-name origin e o g =
      next (λ w. name (wrap_at old w (wrap_at old 0 (origin_name origin)))) g
      (ap name (wrap_at-none old _ ∙ wrap_at-none old _ ∙ o) ∙ sym (name_tree ws table i i-within e))

  -- the node of an item that a pair refers to
  laid-part : (k node : ℕ) → i < k → k < item_count ws → node ≡ node_of count k → tree_at old node 0 ≡ tree_from ws k
  laid-part k node a b e = ap (λ (m : ℕ). tree_at old m 0) (e ∙ ap (λ (n : ℕ). node_of n k) l.count-is) ∙ l.laid.means k b (omega (arith, i-is, l.count-is, l.more))

  pair-item : slice_index_or ws (3 * i) 0 ≡ 4 → PairItem ws (item_count ws) i
  unfolding kind_at
  pair-item e = layout_pair ws table i i-within e

  pub laid-pair : (head tail : ℕ) → slice_index ws (3 * i) ≡ 4 → head ≡ node_of count (slice_index ws (3 * i + 1)) → tail ≡ node_of count (slice_index ws (3 * i + 2)) → Grown (λ w. pair (tree_at old head w) (tree_at old tail w)) old new (3 * j) r → Laid ws new (j + 1)
  unfolding kind_at head_at tail_at
  laid-pair head tail e p q g =
      let f = pair-item e in
      next (λ w. pair (tree_at old head w) (tree_at old tail w)) g
      (ap₂ pair (laid-part _ head f.head_above f.head_below p) (laid-part _ tail f.tail_above f.tail_below q) ∙ sym (pair_tree ws table i i-within e))

  pub laid-constant : (slice_index ws (3 * i) ≢ 0) → (slice_index ws (3 * i) ≢ 3) → (slice_index ws (3 * i) ≢ 4) → Grown (λ w. constant (record { kind = slice_index ws (3 * i); first = slice_index ws (3 * i + 1); second = slice_index ws (3 * i + 2) })) old new (3 * j) r → Laid ws new (j + 1)
  unfolding kind_at item_at constant_of
  laid-constant x y z g = next (λ w. constant (record { kind = slice_index ws (3 * i); first = slice_index ws (3 * i + 1); second = slice_index ws (3 * i + 2) })) g (sym (constant_tree ws table i i-within x y z))

  pub name-few : slice_index_or ws (3 * i) 0 ≡ 3 → slice_index ws (3 * i + 1) < names_most
  unfolding kind_at head_at
  name-few e = layout_name ws table i i-within e

  -- a pair's nodes are below
  pub head-below : slice_index_or ws (3 * i) 0 ≡ 4 → node_of count (slice_index ws (3 * i + 1)) ≤ 3 * j
  unfolding node_of head_at
  head-below e = let f = pair-item e in omega (arith, f.head_above, f.head_below, i-is, l.count-is, l.more)

  pub tail-below : slice_index_or ws (3 * i) 0 ≡ 4 → node_of count (slice_index ws (3 * i + 2)) ≤ 3 * j
  unfolding node_of tail_at
  tail-below e = let f = pair-item e in omega (arith, f.tail_above, f.tail_below, i-is, l.count-is, l.more)

-- ---- the whole

pub laid_none : (ws work : List ℕ) → Laid ws work 0
laid_none ws work = record { means = λ i p q. absurd (omega arith) }

laid_root : (ws work : List ℕ) (n : ℕ) → is_layout ws ≡ true → n ≡ item_count ws → Laid ws work n → tree_at work (3 * n) 0 ≡ tree_of ws
unfolding node_of
laid_root ws work n is e l =
    let z : item_count ws - 0 ≡ n = omega (arith, e) in
    (rw z at (l.means 0 (omega (arith, (layout ws is).least)) (omega (arith, e)))) ∙ sym (tree_of-from ws)

pub laid-all : (ws work : List ℕ) (n : ℕ) → is_layout ws ≡ true → n ≡ item_count ws → Laid ws work n → LaidOut ws work (3 * n)
laid-all ws work n is e l = record { end = ap (λ (k : ℕ). 3 * k) e ∙ sym (layout ws is).long; means = laid_root ws work n is e l }
