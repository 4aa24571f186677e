-- The item table (document 01; request L1 for decimals, kind 5): three words an item, its layout (ground 7), and the tree that it holds.
use Rattle.std.specs.Prelude.{Bool, ◌&&◌, ◌||◌, cond, List, [], ◌∷◌, ℕ, suc, ◌*◌, ◌-◌, ◌/◌, eqb, ltb, length, get_or}
use Rattle.words.specs.Limits.{names_most, items_least, items_most}
use Rattle.words.specs.Lists.{within, all_of}
use Rattle.datum.specs.Constant.{Constant, is_constant}
use Rattle.recipe.specs.Name.{plain_name}
use Rattle.recipe.specs.Tree.{Tree, empty, constant, name, pair, is_list, is_list_of, element}

-- an item: its place in the table, its kind and two words
pub record Item : Type 0 where
  pub place : ℕ
  pub kind : ℕ
  pub first : ℕ
  pub second : ℕ

-- the items of a table, placed from i; words that make no whole item are left out
unfoldable pub items : ℕ → List ℕ → List Item
items i [] = []
items i (k ∷ []) = []
items i (k ∷ a ∷ []) = []
items i (k ∷ a ∷ b ∷ ws) = record { place = i; kind = k; first = a; second = b } ∷ items (suc i) ws

-- the kinds: 0 empty list, 3 name, 4 pair; every other is a constant's
unfoldable pub by_kind : {A : Type 0} → ℕ → A → A → A → A → A
by_kind k for_empty for_name for_pair for_constant = cond (eqb k 0) for_empty (cond (eqb k 3) for_name (cond (eqb k 4) for_pair for_constant))

unfoldable pub constant_of : Item → Constant
constant_of x = record { kind = x.kind; first = x.first; second = x.second }

-- ---- ground 7

-- the words that refer to items
unfoldable pub references : List Item → List ℕ
references [] = []
references (x ∷ xs) = cond (eqb x.kind 4) (x.first ∷ x.second ∷ references xs) (references xs)

unfoldable pub occurrences : ℕ → List ℕ → ℕ
occurrences n [] = 0
occurrences n (x ∷ xs) = cond (eqb n x) (suc (occurrences n xs)) (occurrences n xs)

unfoldable pub kind_at : List ℕ → ℕ → ℕ
kind_at ws i = get_or ws (3 * i) 0

-- references point to higher items, and a tail is a pair or the empty list
unfoldable pub is_pair_item : List ℕ → ℕ → Item → Bool
is_pair_item ws n x =
    within (suc x.place) (n - 1) x.first && (within (suc x.place) (n - 1) x.second
    && (eqb (kind_at ws x.second) 0 || eqb (kind_at ws x.second) 4))

-- an item's words are those of its kind, unused ones 0; n items in all
unfoldable pub is_item : List ℕ → ℕ → Item → Bool
is_item ws n x =
    by_kind x.kind
    (eqb x.first 0 && eqb x.second 0)
    (ltb x.first names_most && eqb x.second 0)
    (is_pair_item ws n x)
    (is_constant (constant_of x))

-- every item but item 0 is referred to by exactly one word
unfoldable pub is_referred_once : List ℕ → Item → Bool
is_referred_once refs x = eqb x.place 0 || eqb (occurrences x.place refs) 1

-- ---- the tree

-- the trees of all items, the first item's first: a reference points to a higher item, which is among the later ones
unfoldable pub trees : List Item → List Tree
trees [] = []
trees (x ∷ xs) =
    let later = trees xs in
    let at : ℕ → Tree = λ j. get_or later (j - suc x.place) empty in
    by_kind x.kind empty (name (plain_name x.first x.place)) (pair (at x.first) (at x.second)) (constant (constant_of x)) ∷ later

unfoldable pub tree_of : List ℕ → Tree
tree_of ws = get_or (trees (items 0 ws)) 0 empty

unfoldable pub item_count : List ℕ → ℕ
item_count ws = length ws / 3

-- ground 7: 3 × N words, N from 5 to 4,096, of this layout; item 0 begins the list of the two elements, the first of them a list
unfoldable pub is_layout : List ℕ → Bool
is_layout ws =
    let n = item_count ws in
    let xs = items 0 ws in
    eqb (length ws) (3 * n) && (within items_least items_most n
    && (all_of (is_item ws n) xs && (all_of (is_referred_once (references xs)) xs
    && (is_list_of 2 (tree_of ws) && is_list (element 0 (tree_of ws))))))
