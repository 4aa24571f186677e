-- The tree of a table of the layout is tidy: its names are below 1,024, with no marks and no binding, its constants are constants.
use Rattle.std.specs.Prelude.{◌≡◌, Bool, ◌&&◌, ◌||◌, List, [], ◌∷◌, eqb, ltb}
use Rattle.std.proofs.Math.Path.{refl, subst}
use Rattle.std.proofs.Common.{ap, ◌∙◌, arith}
use Rattle.std.proofs.Math.Bool.{true, false, cond}
use Rattle.std.proofs.lemmas.Bool.{false≢true}
use Prim.Native.Nat.{ℕ, zero, suc, ◌+◌, ◌*◌, ◌-◌, ◌<◌}
use Rattle.std.proofs.Math.ListN.{get_or}
use borrow.Author.Tests.{eqb-true, ltb-true}
use Rattle.words.specs.Limits.{names_most}
use Rattle.words.specs.Lists.{all_of}
use Rattle.words.specs.TestLaws.{and_parts, all-parts}
use Rattle.words.specs.Each.{Each, none_of, also, each-get_d}
use Rattle.datum.specs.Constant.{is_constant}
use Rattle.recipe.specs.Name.{plain_name}
use Rattle.recipe.specs.Tree.{Tree, empty, constant, name, pair, on_empty, on_pair, is_list}
use Rattle.recipe.specs.Tidy.{Tidy, tidy_empty, tidy_constant, tidy_name, tidy_pair}
use Rattle.recipe.specs.Table.{Item, items, by_kind, constant_of, kind_at, is_pair_item, is_item, trees, tree_of, item_count, is_layout}
use Rattle.recipe.proofs.TableLaws.{is_layout-parts, is_pair_item-parts}
use Rattle.recipe.specs.Layout.{is_list_kind}
use Rattle.recipe.specs.TableTidy.{IsConstant, PlainName}

-- ---- lists by their kinds

by_kind-is_list : (k : ℕ) (n h t c : Tree) → is_list_kind k ≡ true → is_list (by_kind k empty n (pair h t) c) ≡ true
unfolding is_list_kind by_kind is_list on_empty on_pair
by_kind-is_list k n h t c e = go (eqb k 0) (eqb k 4) refl refl e
  where
    go : (a b : Bool) → eqb k 0 ≡ a → eqb k 4 ≡ b → (a || b) ≡ true → is_list (cond a empty (cond (eqb k 3) n (cond b (pair h t) c))) ≡ true
    go true b p q e = refl
    go false true p q e = rw (eqb-true k 4 q)
    go false false p q e = absurd (false≢true e)

-- item m from here on is a list, if its kind is one's
trees-is_list : (ws : List ℕ) (i m : ℕ) → is_list_kind (get_or ws (3 * m) 0) ≡ true → is_list (get_or (trees (items i ws)) m empty) ≡ true
unfolding items trees is_list on_empty
trees-is_list [] i m e = refl
trees-is_list (k ∷ []) i m e = refl
trees-is_list (k ∷ a ∷ []) i m e = refl
trees-is_list (k ∷ a ∷ b ∷ ws) i zero e = by_kind-is_list k _ _ _ _ e
trees-is_list (k ∷ a ∷ b ∷ ws) i (suc m) e = let q : 3 * suc m ≡ suc (suc (suc (3 * m))) = omega arith in trees-is_list ws (suc i) m (rw q at e)

-- ---- each item's tree

-- the table's words from item i on are ws
Continues : List ℕ → ℕ → List ℕ → Type 0
Continues table i ws = (m : ℕ) → get_or table (3 * (i + m)) 0 ≡ get_or ws (3 * m) 0

continues-later : (table : List ℕ) (i k a b : ℕ) (ws : List ℕ) → Continues table i (k ∷ a ∷ b ∷ ws) → Continues table (suc i) ws
unfolding Continues
continues-later table i k a b ws c m =
    let p : 3 * (suc i + m) ≡ 3 * (i + suc m) = omega arith in
    let q : 3 * suc m ≡ suc (suc (suc (3 * m))) = omega arith in
    ap (λ j. get_or table j 0) p ∙ c (suc m) ∙ ap (λ j. get_or (k ∷ a ∷ b ∷ ws) j 0) q

module _ (table : List ℕ) (n : ℕ) (x : Item) (ws : List ℕ) (later : Each (Tidy PlainName IsConstant) (trees (items (suc x.place) ws))) (c : Continues table (suc x.place) ws) where
  tree_at : ℕ → Tree
  tree_at j = get_or (trees (items (suc x.place) ws)) (j - suc x.place) empty

  pair-tidy : is_pair_item table n x ≡ true → Tidy PlainName IsConstant (pair (tree_at x.first) (tree_at x.second))
  unfolding tree_at is_list_kind kind_at Continues
  pair-tidy e =
      let p = is_pair_item-parts table n x e in
      let m = x.second - suc x.place in
      let at : x.second ≡ suc x.place + m = omega (arith, p.tail.above) in
      let kind : is_list_kind (get_or ws (3 * m) 0) ≡ true = subst (λ k. is_list_kind k ≡ true) (ap (λ j. get_or table (3 * j) 0) at ∙ c m) p.tail-kind in
      tidy_pair (each-get_d _ empty later tidy_empty) (each-get_d _ empty later tidy_empty) (trees-is_list ws (suc x.place) m kind)

  item-tidy : is_item table n x ≡ true → Tidy PlainName IsConstant (by_kind x.kind empty (name (plain_name x.first x.place)) (pair (tree_at x.first) (tree_at x.second)) (constant (constant_of x)))
  unfolding is_item by_kind plain_name
  item-tidy = go (eqb x.kind 0) (eqb x.kind 3) (eqb x.kind 4) _ _
    where
      go : (a b d e f : Bool) → cond a e (cond b (ltb x.first names_most && f) (cond d (is_pair_item table n x) (is_constant (constant_of x)))) ≡ true
          → Tidy PlainName IsConstant (cond a empty (cond b (name (plain_name x.first x.place)) (cond d (pair (tree_at x.first) (tree_at x.second)) (constant (constant_of x)))))
      go true b d e f h = tidy_empty
      go false true d e f h = tidy_name (record { small = ltb-true _ _ (and_parts (ltb x.first names_most) f h).0; plain = refl })
      go false false true e f h = pair-tidy h
      go false false false e f h = tidy_constant h

trees-tidy : (table : List ℕ) (n : ℕ) (ws : List ℕ) (i : ℕ) → all_of (is_item table n) (items i ws) ≡ true → Continues table i ws → Each (Tidy PlainName IsConstant) (trees (items i ws))
unfolding items trees tree_at
trees-tidy table n [] i good c = none_of
trees-tidy table n (k ∷ []) i good c = none_of
trees-tidy table n (k ∷ a ∷ []) i good c = none_of
trees-tidy table n (k ∷ a ∷ b ∷ ws) i good c =
    let x : Item = record { place = i; kind = k; first = a; second = b } in
    let g = all-parts (is_item table n) x (items (suc i) ws) good in
    let d = continues-later table i k a b ws c in
    let later = trees-tidy table n ws (suc i) g.1 d in
    also (item-tidy table n x ws later d g.0) later

pub tree_of-tidy : (ws : List ℕ) → is_layout ws ≡ true → Tidy PlainName IsConstant (tree_of ws)
unfolding tree_of Continues
tree_of-tidy ws e = each-get_d 0 empty (trees-tidy ws (item_count ws) ws 0 (is_layout-parts ws e).item (λ m. ap (λ j. get_or ws (3 * j) 0) (omega arith))) tidy_empty
