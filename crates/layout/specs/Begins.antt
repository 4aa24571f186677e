-- Laws of how item 0 begins (ground 7): the list of the two elements, the first of them a list. One for each way through `begins_two`.
use Rattle.std.specs.Prelude.{◌≡◌, refl, false, ◌&&◌, List, ℕ, suc, ◌*◌, ◌<◌}
use Rattle.std.proofs.Math.Bool.{true, and-false}
use native.Mathlib.Omega.{arith}
use Rattle.std.proofs.Math.ListN.{length}
use borrow.Author.Tests.{eqb-true, ne_eqb}
use Rattle.words.specs.Lists.{all_of}
use Rattle.recipe.specs.Tree.{on_empty, on_pair, is_list, is_list_of, elements, element}
use Rattle.recipe.specs.Table.{items, kind_at, is_item, tree_of}
use Rattle.recipe.specs.ItemLaws.{item_at}
use Rattle.recipe.specs.TreeFrom.{tree_from, head_at, tail_at, from-is_list}
use Rattle.recipe.specs.Layout.{is_list_kind, PairItem}
use Rattle.recipe.proofs.LayoutLaws.{item_good, good_pair, good_pair_tree, spine-more, spine-end}

-- the two kinds of a list
pub list-kind : (k : ℕ) → is_list_kind k ≡ true → (k ≡ 0 → ⊥) → k ≡ 4
unfolding is_list_kind
list-kind k l h = eqb-true k 4 (rw (ne_eqb k 0 h) at l)

module _ (ws : List ℕ) (n : ℕ) (e : length ws ≡ 3 * n) (g : all_of (is_item ws n) (items 0 ws) ≡ true) where
  pub pair_at : (i : ℕ) → i < n → kind_at ws i ≡ 4 → PairItem ws n i
  pair_at i h k = good_pair ws n e (item_good ws n e g) i h k

  good : (i : ℕ) → i < n → is_item ws n (item_at ws i) ≡ true
  good = item_good ws n e g

  module _ (z : 0 < n) where
    -- another number of elements
    miscounted : (m : ℕ) → length (elements (tree_from ws 0)) ≡ m → (m ≡ 2 → ⊥) → (is_list_of 2 (tree_of ws) && is_list (element 0 (tree_of ws))) ≡ false
    unfolding is_list_of tree_of tree_from
    miscounted m p q = rw (p, ne_eqb m 2 q, and-false (is_list (tree_from ws 0)))

    pub none : (kind_at ws 0 ≡ 4 → ⊥) → (is_list_of 2 (tree_of ws) && is_list (element 0 (tree_of ws))) ≡ false
    none k = miscounted 0 (spine-end ws n e good 0 z k) (λ q. omega arith)

    module _ (k : kind_at ws 0 ≡ 4) (h : tail_at ws 0 < n) where
      pub one : (kind_at ws (tail_at ws 0) ≡ 4 → ⊥) → (is_list_of 2 (tree_of ws) && is_list (element 0 (tree_of ws))) ≡ false
      one l = miscounted 1 (spine-more ws n e good 0 0 z k (spine-end ws n e good (tail_at ws 0) h l)) (λ q. omega arith)

      module _ (l : kind_at ws (tail_at ws 0) ≡ 4) where
        spine-two : (m : ℕ) → length (elements (tree_from ws (tail_at ws (tail_at ws 0)))) ≡ m → length (elements (tree_from ws 0)) ≡ suc (suc m)
        spine-two m q = spine-more ws n e good 0 (suc m) z k (spine-more ws n e good (tail_at ws 0) m h l q)

        pub three : tail_at ws (tail_at ws 0) < n → kind_at ws (tail_at ws (tail_at ws 0)) ≡ 4 → (is_list_of 2 (tree_of ws) && is_list (element 0 (tree_of ws))) ≡ false
        three u m =
            let r = length (elements (tree_from ws (tail_at ws (tail_at ws (tail_at ws 0))))) in
            miscounted (suc (suc (suc r))) (spine-two (suc r) (spine-more ws n e good (tail_at ws (tail_at ws 0)) r u m refl)) (λ q. omega arith)

        pub two : tail_at ws (tail_at ws 0) < n → kind_at ws (tail_at ws (tail_at ws 0)) ≡ 0 → head_at ws 0 < n →
            (is_list_of 2 (tree_of ws) && is_list (element 0 (tree_of ws))) ≡ is_list_kind (kind_at ws (head_at ws 0))
        unfolding is_list_of tree_of tree_from is_list on_empty on_pair elements element is_list_kind
        two u m v =
            let not4 : kind_at ws (tail_at ws (tail_at ws 0)) ≡ 4 → ⊥ = λ q. omega arith in
            let s : length (elements (tree_from ws 0)) ≡ 2 = spine-two 0 (spine-end ws n e good (tail_at ws (tail_at ws 0)) u not4) in
            let t = good_pair_tree ws n e good 0 z k in
            let a : is_list_of 2 (tree_of ws) ≡ true = rw (s, t) in
            let b : element 0 (tree_of ws) ≡ tree_from ws (head_at ws 0) = rw t in
            rw (a, b) (from-is_list ws n (head_at ws 0) e v)
