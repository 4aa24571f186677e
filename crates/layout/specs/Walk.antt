-- The walk through the items of a list of distinct names: the invariant of `distinct_names`, and one law for each way through its loop.
use Rattle.std.specs.Prelude.{◌≡◌, refl, Bool, true, false, List, [], ℕ, ◌+◌, ◌*◌, ◌<◌, eqb, length, get_or, set}
use Rattle.std.proofs.Common.{sym, ap, ◌∙◌, arith, length-set, eqb-true}
use Rattle.std.proofs.Math.Path.{subst}
use Rattle.std.proofs.lemmas.Bool.{eqb-false}
use Rattle.words.specs.Limits.{names_most, operations_most}
use Rattle.recipe.specs.Name.{plain_name}
use Rattle.recipe.specs.Tree.{Tree, empty, name, pair, names}
use Rattle.recipe.specs.Table.{kind_at, tree_of, item_count}
use Rattle.recipe.specs.TreeFrom.{tree_from, head_at, tail_at}
use Rattle.recipe.specs.Layout.{is_list_kind, PairItem, Layout}
use Rattle.recipe.proofs.LayoutLaws.{layout_pair, empty_tree, pair_tree, root}
use Rattle.expansion.specs.Run.{operation_numbers, are_operations}
use Rattle.layout.specs.Begins.{list-kind}
use Rattle.layout.specs.Places.{Places, numbers}
use Rattle.layout.specs.DistinctNames.{is_fit, are_names, passes, are_operations-first, Walked, walked_start, walked_end, walked-places, walked-bad, walked-full, walked-twice, walked_more}
use Rattle.layout.specs.NameItems.{FitItem, fit-item}

-- item i of a table past ground 7 begins a list
pub record ListItem (ws : List ℕ) (i : ℕ) : Type 0 where
  pub table : Layout ws
  pub below : i < item_count ws
  pub list_kind : is_list_kind (kind_at ws i) ≡ true

-- item i begins what is left of the list that item `first` begins, of which `place` names were passed
pub record Walking (fit : ℕ → Bool) (most : ℕ) (ws : List ℕ) (first : ℕ) (places : List ℕ) (i place : ℕ) : Type 0 where
  pub item : ListItem ws i
  pub long : length places ≡ names_most
  pub walked : Walked fit most (tree_from ws first) (tree_from ws i) places place

-- an item's three words are in the table
pub item-words : {ws : List ℕ} (i : ℕ) → Layout ws → i < item_count ws → 3 * i + 2 < length ws
item-words i l h = omega (arith, l.long)

-- the list of operations begins at the first element's item
pub first-item : {ws : List ℕ} → Layout ws → ListItem ws (head_at ws 0)
first-item {ws} l = let r = root ws l in record { table = l; below = r.below; list_kind = r.list_kind }

pub walk_start : (fit : ℕ → Bool) (most : ℕ) {ws : List ℕ} {first : ℕ} (places : List ℕ) → ListItem ws first → length places ≡ names_most → Places places [] → Walking fit most ws first places first 0
walk_start fit most {ws} {first} places l long h = record { item = l; long = long; walked = walked_start fit most (tree_from ws first) places h }

-- ground 10 is that of the first element's item
module _ {ws : List ℕ} (l : Layout ws) where
  pub by_first : are_operations (tree_of ws) ≡ are_names (passes 0) operations_most (tree_from ws (head_at ws 0))
  by_first = are_operations-first (tree_of ws) ∙ ap (are_names (passes 0) operations_most) (root ws l).element0

  pub places-first : (places : List ℕ) → Places places (numbers (names (tree_from ws (head_at ws 0)))) → Places places (operation_numbers (tree_of ws))
  unfolding operation_numbers numbers
  places-first places h = subst (λ (t : Tree). Places places (numbers (names t))) (sym (root ws l).element0) h

-- ---- the test of the loop

module _ {ws : List ℕ} {i : ℕ} (l : ListItem ws i) where
  pub words-here : 3 * i + 2 < length ws
  words-here = item-words i l.table l.below

  -- the list ends here
  pub ends : (kind_at ws i ≡ 4 → ⊥) → tree_from ws i ≡ empty
  ends k = empty_tree ws l.table i l.below (by (eqb (kind_at ws i) 0) refl)
    where
      by : (b : Bool) → eqb (kind_at ws i) 0 ≡ b → kind_at ws i ≡ 0
      by true e = eqb-true (kind_at ws i) 0 e
      by false e = absurd (k (list-kind (kind_at ws i) l.list_kind (eqb-false (kind_at ws i) 0 e)))

  pub pair-here : kind_at ws i ≡ 4 → PairItem ws (item_count ws) i
  pair-here k = layout_pair ws l.table i l.below k

  pub tree-here : kind_at ws i ≡ 4 → tree_from ws i ≡ pair (tree_from ws (head_at ws i)) (tree_from ws (tail_at ws i))
  tree-here = pair_tree ws l.table i l.below

  -- its tail is a list too
  pub next-item : kind_at ws i ≡ 4 → ListItem ws (tail_at ws i)
  next-item k = let p = pair-here k in record { table = l.table; below = p.tail_below; list_kind = p.tail_kind }

module _ {fit : ℕ → Bool} {most : ℕ} {ws : List ℕ} {first : ℕ} {places : List ℕ} {i place : ℕ} (w : Walking fit most ws first places i place) where
  abbrev whole : Tree
  whole = tree_from ws first

  abbrev rest : Tree
  rest = tree_from ws i

  pub walk_end : (kind_at ws i ≡ 4 → ⊥) → are_names fit most whole ≡ true
  walk_end k = walked_end fit most whole rest places place w.walked (ends w.item k)

  pub walk-places : (kind_at ws i ≡ 4 → ⊥) → Places places (numbers (names whole))
  walk-places k = walked-places fit most whole rest places place w.walked (ends w.item k)

  -- ---- a turn, by the item of the next element

  module _ (kind : kind_at ws i ≡ 4) (item : ℕ) (item-is : item ≡ head_at ws i) where
    pub turn-item : item < item_count ws
    turn-item = omega (arith, item-is, (pair-here w.item kind).head_below)

    here : rest ≡ pair (tree_from ws item) (tree_from ws (tail_at ws i))
    here = rw item-is (tree-here w.item kind)

    pub turn-bad : is_fit fit (tree_from ws item) ≡ false → are_names fit most whole ≡ false
    turn-bad z = walked-bad fit most whole rest places place w.walked (tree_from ws item) (tree_from ws (tail_at ws i)) here z

    module _ (good : is_fit fit (tree_from ws item) ≡ true) where
      found : FitItem fit ws item
      found = fit-item ws w.item.table item turn-item fit good

      next : rest ≡ pair (name (plain_name (head_at ws item) item)) (tree_from ws (tail_at ws i))
      next = here ∙ ap (λ (x : Tree). pair x (tree_from ws (tail_at ws i))) found.tree

      pub turn-full : place ≡ most → are_names fit most whole ≡ false
      turn-full p = walked-full fit most whole rest places place w.walked (head_at ws item) item (tree_from ws (tail_at ws i)) next p

      module _ (n : ℕ) (n-is : n ≡ head_at ws item) where
        -- the place of name n is in the table of places
        pub turn-place : n < length places
        turn-place = omega (arith, n-is, found.below, w.long)

        pub turn_twice : (get_or places n 0 ≡ 0 → ⊥) → are_names fit most whole ≡ false
        turn_twice q =
            walked-twice fit most whole rest places place w.walked (head_at ws item) item (tree_from ws (tail_at ws i)) next found.below
            (λ z. q (ap (λ (m : ℕ). get_or places m 0) n-is ∙ z))

        pub turn_more : (j : ℕ) → (place ≡ most → ⊥) → get_or places n 0 ≡ 0 → j ≡ tail_at ws i → Walking fit most ws first (set places n (place + 1)) j (place + 1)
        turn_more j p q e =
            let few : place < most = omega (arith, w.walked.few) in
            let z : get_or places (head_at ws item) 0 ≡ 0 = ap (λ (m : ℕ). get_or places m 0) (sym n-is) ∙ q in
            rw (e, n-is) (record {
              item = next-item w.item kind;
              long = length-set places (head_at ws item) (place + 1) ∙ w.long;
              walked = walked_more fit most whole rest places place w.walked (head_at ws item) item (tree_from ws (tail_at ws i)) next found.below found.good few w.long z;
            })
