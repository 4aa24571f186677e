-- The tree of a table that holds two elements: a list of two, the first of them a list exactly when the first element is.
use Rattle.std.specs.Prelude.{◌≡◌, Bool, true, false, ◌||◌, eqb, length, drop}
use Rattle.std.proofs.Math.Path.{ap}
use Rattle.std.proofs.Common.{◌∙◌, arith}
use mathlib.Core.List.{List, [], ◌++◌}
use Prim.Native.Nat.{ℕ, suc, ◌+◌, ◌*◌, ◌<◌}
use Rattle.datum.specs.Datum.{Datum, Data, constant_d, name_d, list_d, none_d, more_d, datum_items, data_items}
use Rattle.recipe.specs.Tree.{empty, pair, is_list, is_list_of, elements, element, on_empty, on_pair}
use Rattle.recipe.specs.Table.{kind_at, tree_of}
use Rattle.recipe.specs.TreeFrom.{tree_from, head_at, tail_at, tree_of-from, from_empty, from-pair, from-is_list}
use Rattle.reading.specs.Numbering.{datum_words, data_words}
use Rattle.reading_layout.specs.Items.{fits, no-empty, no-pair}
use Rattle.reading_layout.specs.Good.{word_at, kind-at, head-words, tail-words}

-- it is a list
unfoldable pub is_list_datum : Datum → Bool
is_list_datum (constant_d a) = false
is_list_datum (name_d n) = false
is_list_datum (list_d ds) = true

-- its first element is a list
unfoldable pub is_list_data : Data → Bool
unfolding is_list_datum
is_list_data none_d = false
is_list_data (more_d d ds) = is_list_datum d

module _ (ws : List ℕ) where
  -- ---- items of data whose words stand in a table

  datum-list : (i : ℕ) (d : Datum) (back : List ℕ) → fits d ≡ true → drop (3 * i) ws ≡ datum_words i d ++ back
      → (eqb (kind_at ws i) 0 || eqb (kind_at ws i) 4) ≡ is_list_datum d
  unfolding datum_words data_words is_list_datum fits
  datum-list i (constant_d a) back h e =
      rw (kind-at ws i _ e) (rw (no-empty a.kind a.first a.second h, no-pair a.kind a.first a.second h))
  datum-list i (name_d n) back h e = rw (kind-at ws i _ e)
  datum-list i (list_d none_d) back h e = rw (kind-at ws i _ e)
  datum-list i (list_d (more_d d ds)) back h e = rw (kind-at ws i _ e)

  module _ (n : ℕ) (l : length ws ≡ 3 * n) where
    pair-tree : (i : ℕ) (d : Datum) (ds : Data) (back : List ℕ) → i < n → drop (3 * i) ws ≡ data_words i (more_d d ds) ++ back
        → tree_from ws i ≡ pair (tree_from ws (suc i)) (tree_from ws (suc i + datum_items d))
    unfolding head_at tail_at data_words
    pair-tree i d ds back h e =
        let a : head_at ws i ≡ suc i = word_at ws i 1 _ e in
        let b : tail_at ws i ≡ suc i + datum_items d = word_at ws i 2 _ e in
        from-pair ws n i l h (kind-at ws i _ e) (omega (arith, a)) (omega (arith, b)) ∙ ap (λ j. pair (tree_from ws j) (tree_from ws (tail_at ws i))) a
        ∙ ap (λ j. pair (tree_from ws (suc i)) (tree_from ws j)) b

    none-tree : (i : ℕ) (back : List ℕ) → i < n → drop (3 * i) ws ≡ data_words i none_d ++ back → tree_from ws i ≡ empty
    unfolding data_words
    none-tree i back h e = from_empty ws n i l h (kind-at ws i _ e)

    -- ---- two elements

    module _ (x y : Datum) (f : fits x ≡ true) (few : data_items (more_d x (more_d y none_d)) ≡ n) (e : drop (3 * 0) ws ≡ data_words 0 (more_d x (more_d y none_d)) ++ []) where
      tree_is : tree_of ws ≡ pair (tree_from ws 1) (pair (tree_from ws (suc (1 + datum_items x))) empty)
      unfolding data_items
      tree_is =
          let j = 1 + datum_items x in
          let k = suc j + datum_items y in
          let e1 = tail-words ws 0 x (more_d y none_d) [] e in
          let e2 = tail-words ws j y none_d [] e1 in
          let a : tree_from ws 0 ≡ pair (tree_from ws 1) (tree_from ws j) = pair-tree 0 x (more_d y none_d) [] (omega (arith, few)) e in
          let b : tree_from ws j ≡ pair (tree_from ws (suc j)) (tree_from ws k) = pair-tree j y none_d [] (omega (arith, few)) e1 in
          let c : tree_from ws k ≡ empty = none-tree k [] (omega (arith, few)) e2 in
          tree_of-from ws ∙ a ∙ ap (λ t. pair (tree_from ws 1) t) (b ∙ ap (λ t. pair (tree_from ws (suc j)) t) c)

      pub is-two : is_list_of 2 (tree_of ws) ≡ true
      unfolding is_list_of is_list elements on_empty on_pair
      is-two = rw tree_is

      pub first-list : is_list (element 0 (tree_of ws)) ≡ is_list_datum x
      unfolding element elements data_items
      first-list =
          ap (λ t. is_list (element 0 t)) tree_is
          ∙ from-is_list ws n 1 l (omega (arith, few))
          ∙ datum-list 1 x _ f (head-words ws 0 x (more_d y none_d) [] e)
