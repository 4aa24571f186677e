-- A table with another number in some name items: it holds the tree with that number at the names of those items (`tree_of-renumber`), and
-- has the layout where the first has it (`layout-renumber`). And a new number is that of no name of the tree.
use Rattle.std.specs.Prelude.{◌≡◌, false, not, ◌&&◌, ◌||◌, ltb}
use Rattle.std.proofs.Math.Path.{refl, ap, ap₂, sym}
use Rattle.std.proofs.Common.{◌∙◌, subst, eqb-true, eq-eqb, ne_eqb, le-leb}
use Rattle.std.proofs.Math.Bool.{Bool, true, cond}
use Rattle.std.proofs.lemmas.Bool.{false≢true}
use mathlib.Core.List.{List, [], ◌∷◌, map}
use Prim.Native.Nat.{ℕ, zero, suc, ◌*◌, ◌-◌, ◌/◌}
use native.Mathlib.Omega.{arith}
use Rattle.std.proofs.Math.Dec.{eqb}
use Rattle.std.proofs.Math.ListN.{length, get_or, length-map}
use Rattle.words.specs.Limits.{names_most, base_name_count, items_least, items_most}
use Rattle.words.specs.Lists.{within, all_of}
use Rattle.words.specs.TestLaws.{and_parts, and_both}
use Rattle.words.specs.Each.{each_weaken, each_map, each-true, true-each}
use Rattle.datum.specs.Constant.{is_constant}
use Rattle.recipe.specs.Name.{Name, plain_name}
use Rattle.recipe.specs.Tree.{Tree, empty, constant, name, pair, is_list, is_list_of, elements, element, on_names}
use Rattle.recipe.specs.TreeLaws.{on_names-elements, on_names-element}
use Rattle.recipe.specs.Tidy.{on_names-is_list}
use Rattle.recipe.specs.Table.{Item, items, by_kind, constant_of, references, kind_at, is_pair_item, is_item, is_referred_once, trees, tree_of, item_count, is_layout}
use Rattle.recipe.specs.TreeNames.{TreeAll}
use Rattle.recipe.proofs.TableLaws.{is_layout-parts}
use Rattle.recipe.proofs.TableNamesLaws.{tree_of-all}
use Rattle.private_names.specs.Statement.{is_new, renumber}

-- a new number is that of no name
pub tree-new : (ws : List ℕ) (n : ℕ) → is_new ws n ≡ true → TreeAll (λ x. eqb x.number n ≡ false) (tree_of ws)
unfolding is_new plain_name
tree-new ws n e =
    let a = and_parts (not (ltb n base_name_count)) _ e in
    let b = and_parts (ltb n names_most) _ a.1 in
    tree_of-all (λ x. eqb x.number n ≡ false) ws (each_weaken (λ x h d. go (eqb x.kind 3) (eqb x.first n) d h) (each-true _ _ b.1))
  where
    go : (b c : Bool) → b ≡ true → not (b && c) ≡ true → c ≡ false
    go true true e h = absurd (false≢true h)
    go true false e h = refl
    go false c e h = absurd (false≢true e)

-- an item's tree, before later ones
tree_at : Item → List Tree → Tree
tree_at x later = by_kind x.kind empty (name (plain_name x.first x.place)) (pair (get_or later (x.first - suc x.place) empty) (get_or later (x.second - suc x.place) empty)) (constant (constant_of x))

trees-step : (x : Item) (xs : List Item) → trees (x ∷ xs) ≡ tree_at x (trees xs) ∷ trees xs
unfolding trees tree_at
trees-step x xs = refl

module _ (C : ℕ → Bool) (n : ℕ) where
  -- the new number at a name that stems from one of them
  unfoldable pub renumber_name : Name → Name
  renumber_name x = cond (C x.item) (plain_name n x.item) x

  renumber_item : Item → Item
  renumber_item x = record { place = x.place; kind = x.kind; first = cond (eqb x.kind 3 && C x.place) n x.first; second = x.second }

  items-renumber : (i : ℕ) (ws : List ℕ) → items i (renumber C n i ws) ≡ map renumber_item (items i ws)
  unfolding items renumber renumber_item
  items-renumber i [] = refl
  items-renumber i (k ∷ []) = refl
  items-renumber i (k ∷ a ∷ []) = refl
  items-renumber i (k ∷ a ∷ b ∷ ws) = ap (renumber_item (record { place = i; kind = k; first = a; second = b }) ∷◌) (items-renumber (suc i) ws)

  length-renumber : (i : ℕ) (ws : List ℕ) → length (renumber C n i ws) ≡ length ws
  unfolding renumber
  length-renumber i [] = refl
  length-renumber i (k ∷ []) = refl
  length-renumber i (k ∷ a ∷ []) = refl
  length-renumber i (k ∷ a ∷ b ∷ ws) = ap (λ m. suc (suc (suc m))) (length-renumber (suc i) ws)

  pub count-renumber : (ws : List ℕ) → item_count (renumber C n 0 ws) ≡ item_count ws
  unfolding item_count
  count-renumber ws = ap (λ m. m / 3) (length-renumber 0 ws)

  kind_at-renumber : (i : ℕ) (ws : List ℕ) (j : ℕ) → get_or (renumber C n i ws) (3 * j) 0 ≡ get_or ws (3 * j) 0
  unfolding renumber
  kind_at-renumber i [] j = refl
  kind_at-renumber i (k ∷ []) j = refl
  kind_at-renumber i (k ∷ a ∷ []) j = refl
  kind_at-renumber i (k ∷ a ∷ b ∷ ws) zero = refl
  kind_at-renumber i (k ∷ a ∷ b ∷ ws) (suc j) = let e : 3 * suc j ≡ suc (suc (suc (3 * j))) = omega arith in rw e (kind_at-renumber (suc i) ws j)

  -- ---- the trees

  on_names-get_d : (ts : List Tree) (k : ℕ) → get_or (map (on_names renumber_name) ts) k empty ≡ on_names renumber_name (get_or ts k empty)
  unfolding on_names
  on_names-get_d [] k = refl
  on_names-get_d (t ∷ ts) zero = refl
  on_names-get_d (t ∷ ts) (suc k) = on_names-get_d ts k

  tree_at-renumber : (x : Item) (later : List Tree) → tree_at (renumber_item x) (map (on_names renumber_name) later) ≡ on_names renumber_name (tree_at x later)
  unfolding tree_at by_kind renumber_item on_names renumber_name plain_name constant_of
  tree_at-renumber x later = go (eqb x.kind 0) (eqb x.kind 3) (eqb x.kind 4)
    where
      at : ℕ → Tree
      at j = get_or later (j - suc x.place) empty

      at' : ℕ → Tree
      at' j = get_or (map (on_names renumber_name) later) (j - suc x.place) empty

      numbered : (d : Bool) → plain_name (cond d n x.first) x.place ≡ cond d (plain_name n x.place) (plain_name x.first x.place)
      numbered true = refl
      numbered false = refl

      number : Bool → ℕ
      number b = cond (b && C x.place) n x.first

      go : (a b c : Bool) → cond a empty (cond b (name (plain_name (number b) x.place)) (cond c (pair (at' (number b)) (at' x.second)) (constant (record { kind = x.kind; first = number b; second = x.second }))))
          ≡ on_names renumber_name (cond a empty (cond b (name (plain_name x.first x.place)) (cond c (pair (at x.first) (at x.second)) (constant (constant_of x)))))
      go true b c = refl
      go false true c = ap name (numbered (C x.place))
      go false false true = ap₂ pair (on_names-get_d later (x.first - suc x.place)) (on_names-get_d later (x.second - suc x.place))
      go false false false = refl

  trees-renumber : (xs : List Item) → trees (map renumber_item xs) ≡ map (on_names renumber_name) (trees xs)
  unfolding trees
  trees-renumber [] = refl
  trees-renumber (x ∷ xs) =
      trees-step (renumber_item x) (map renumber_item xs)
      ∙ ap (λ ts. tree_at (renumber_item x) ts ∷ ts) (trees-renumber xs)
      ∙ ap (◌∷ map (on_names renumber_name) (trees xs)) (tree_at-renumber x (trees xs))
      ∙ sym (ap (map (on_names renumber_name)) (trees-step x xs))

  -- the table with the new number holds the tree with the new number
  pub tree_of-renumber : (ws : List ℕ) → tree_of (renumber C n 0 ws) ≡ on_names renumber_name (tree_of ws)
  unfolding tree_of
  tree_of-renumber ws =
      ap (λ xs. get_or (trees xs) 0 empty) (items-renumber 0 ws) ∙ ap (λ ts. get_or ts 0 empty) (trees-renumber (items 0 ws)) ∙ on_names-get_d (trees (items 0 ws)) 0

  -- ---- ground 7

  references-renumber : (xs : List Item) → references (map renumber_item xs) ≡ references xs
  unfolding references renumber_item
  references-renumber [] = refl
  references-renumber (x ∷ xs) = go (eqb x.kind 4) refl ∙ ap (λ r. cond (eqb x.kind 4) (x.first ∷ x.second ∷ r) r) (references-renumber xs)
    where
      r : List ℕ
      r = references (map renumber_item xs)

      go : (b : Bool) → eqb x.kind 4 ≡ b → cond b (cond (eqb x.kind 3 && C x.place) n x.first ∷ x.second ∷ r) r ≡ cond b (x.first ∷ x.second ∷ r) r
      go true e = let d : eqb x.kind 3 ≡ false = ne_eqb x.kind 3 (omega (arith, eqb-true x.kind 4 e)) in rw d
      go false e = refl

  kinds-renumber : (ws : List ℕ) (j : ℕ) → kind_at (renumber C n 0 ws) j ≡ kind_at ws j
  unfolding kind_at
  kinds-renumber ws j = kind_at-renumber 0 ws j

  item-renumber : ltb n names_most ≡ true → (ws : List ℕ) (m : ℕ) (x : Item) → is_item ws m x ≡ true → is_item (renumber C n 0 ws) m (renumber_item x) ≡ true
  unfolding is_item by_kind is_pair_item renumber_item constant_of
  item-renumber small ws m x e = go (eqb x.kind 0) (eqb x.kind 3) (eqb x.kind 4) refl refl e
    where
      number : Bool → ℕ
      number b = cond (b && C x.place) n x.first

      small-number : (d : Bool) (k : ℕ) → (ltb k names_most && eqb x.second 0) ≡ true → (ltb (cond d n k) names_most && eqb x.second 0) ≡ true
      small-number true k h = ap₂ ◌&&◌ small (and_parts (ltb k names_most) (eqb x.second 0) h).1
      small-number false k h = h

      tail-kind : (i : ℕ) → (eqb (kind_at ws i) 0 || eqb (kind_at ws i) 4) ≡ (eqb (kind_at (renumber C n 0 ws) i) 0 || eqb (kind_at (renumber C n 0 ws) i) 4)
      tail-kind i = ap (λ k. eqb k 0 || eqb k 4) (sym (kinds-renumber ws i))

      go : (a b c : Bool) → eqb x.kind 0 ≡ a → eqb x.kind 3 ≡ b
          → cond a (eqb x.first 0 && eqb x.second 0) (cond b (ltb x.first names_most && eqb x.second 0) (cond c (is_pair_item ws m x) (is_constant (constant_of x)))) ≡ true
          → cond a (eqb (number b) 0 && eqb x.second 0) (cond b (ltb (number b) names_most && eqb x.second 0)
          (cond c (within (suc x.place) (m - 1) (number b) && (within (suc x.place) (m - 1) x.second && (eqb (kind_at (renumber C n 0 ws) x.second) 0 || eqb (kind_at (renumber C n 0 ws) x.second) 4)))
          (is_constant (record { kind = x.kind; first = number b; second = x.second })))) ≡ true
      go true true c e d h = absurd (omega (arith, eqb-true x.kind 0 e, eqb-true x.kind 3 d))
      go true false c e d h = h
      go false true c e d h = small-number (C x.place) x.first h
      go false false true e d h = subst (λ b. (within (suc x.place) (m - 1) x.first && (within (suc x.place) (m - 1) x.second && b)) ≡ true) (tail-kind x.second) h
      go false false false e d h = h

  -- a table of the layout keeps it, where the number is one of a name
  pub layout-renumber : ltb n names_most ≡ true → (ws : List ℕ) → is_layout ws ≡ true → is_layout (renumber C n 0 ws) ≡ true
  unfolding is_layout is_list_of is_referred_once renumber_item within
  layout-renumber small ws e =
      let xs = items 0 ws in
      let t = tree_of ws in
      let us = renumber C n 0 ws in
      let l = is_layout-parts ws e in
      let c = count-renumber ws in
      let ys = items-renumber 0 ws in
      let good : all_of (is_item us (item_count us)) (items 0 us) ≡ true
      = ap₂ (λ m zs. all_of (is_item us m) zs) c ys ∙ true-each _ (each_map renumber_item (λ x h. item-renumber small ws (item_count ws) x h) (each-true _ xs l.item)) in
      let referred : all_of (is_referred_once (references (items 0 us))) (items 0 us) ≡ true
      = ap₂ (λ r zs. all_of (is_referred_once r) zs) (ap references ys ∙ references-renumber xs) ys ∙ true-each _ (each_map renumber_item (λ x h. h) (each-true _ xs l.referred)) in
      let two : is_list_of 2 (tree_of us) ≡ true
      = ap (is_list_of 2) (tree_of-renumber ws) ∙ ap₂ (λ a b. a && eqb b 2) (on_names-is_list renumber_name t) (ap length (on_names-elements renumber_name t) ∙ length-map (elements t) (on_names renumber_name)) ∙ l.two in
      let first : is_list (element 0 (tree_of us)) ≡ true
      = ap (λ u. is_list (element 0 u)) (tree_of-renumber ws) ∙ ap is_list (on_names-element renumber_name 0 t) ∙ on_names-is_list renumber_name (element 0 t) ∙ l.first in
      and_both _ _ (eq-eqb (length us) (3 * item_count us) (length-renumber 0 ws ∙ l.words ∙ ap (λ m. 3 * m) (sym c)))
      (and_both _ _ (ap (within items_least items_most) c ∙ and_both _ _ (le-leb _ _ l.count.0) (le-leb _ _ l.count.1))
      (and_both _ _ good (and_both _ _ referred (and_both _ _ two first))))
