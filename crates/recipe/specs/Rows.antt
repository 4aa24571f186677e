-- Known answers about names and item tables, proved by computing the definitions. Item tables are written three words an item.
use Rattle.std.specs.Prelude.{◌≡◌, refl, Bool, true, false, List, [], ◌∷◌, ◌++◌, map, ℕ}
use Rattle.words.specs.Lists as Lists
use Rattle.datum.specs.Constant as Constant
use Rattle.recipe.specs.Name as Name
use Rattle.recipe.specs.Name.{Name, plain_name, variable, macro, same, toggle, mark_name, produce_name, give_binding}
use Rattle.recipe.specs.Tree as Tree
use Rattle.recipe.specs.Table as Table

-- ---- sameness and marks

-- name 9 of item 20, beside itself, its like at another item and in a step's result, another number, a mark, two kinds of binding
unfoldable pub beside : List Name
beside =
    plain_name 9 20 ∷
    produce_name (plain_name 9 30) ∷
    plain_name 8 20 ∷
    mark_name 1 (plain_name 9 20) ∷
    give_binding (variable 0) (plain_name 9 20) ∷
    give_binding (macro 0) (plain_name 9 20) ∷
    []

-- with no mark and no binding; with mark 1; bound to variable 0; bound to macro 0
pub same-holds : map (same (plain_name 9 20)) beside ++ map (same (mark_name 1 (plain_name 9 30))) beside
    ++ map (same (give_binding (variable 0) (plain_name 9 30))) beside ++ map (same (give_binding (macro 0) (plain_name 9 30))) beside
    ≡ true ∷ true ∷ false ∷ false ∷ false ∷ false
    ∷ false ∷ false ∷ false ∷ true ∷ false ∷ false
    ∷ false ∷ false ∷ false ∷ false ∷ true ∷ false
    ∷ false ∷ false ∷ false ∷ false ∷ false ∷ true ∷ []
unfolding beside same plain_name mark_name produce_name give_binding toggle Name.binding_key Lists.equal
same-holds = refl

-- a mark is put into its place, and met twice it cancels, wherever it stands
pub toggle-holds : toggle 1 [] ∷ toggle 2 (1 ∷ []) ∷ toggle 1 (2 ∷ []) ∷ toggle 3 (3 ∷ 2 ∷ 1 ∷ []) ∷ toggle 2 (3 ∷ 2 ∷ 1 ∷ []) ∷ toggle 1 (3 ∷ 1 ∷ []) ∷ []
    ≡ (1 ∷ []) ∷ (2 ∷ 1 ∷ []) ∷ (2 ∷ 1 ∷ []) ∷ (2 ∷ 1 ∷ []) ∷ (3 ∷ 1 ∷ []) ∷ (3 ∷ []) ∷ []
unfolding toggle
toggle-holds = refl

-- ---- layout (ground 7)

-- X1: numbered otherwise than by reading
unfoldable pub X1 : List ℕ
X1 = 4 ∷ 2 ∷ 1 ∷ 4 ∷ 4 ∷ 3 ∷ 0 ∷ 0 ∷ 0 ∷ 0 ∷ 0 ∷ 0 ∷ 1 ∷ 5 ∷ 0 ∷ []

-- X2: `() 5` as it is read
unfoldable pub X2 : List ℕ
X2 = 4 ∷ 1 ∷ 2 ∷ 0 ∷ 0 ∷ 0 ∷ 4 ∷ 3 ∷ 4 ∷ 1 ∷ 5 ∷ 0 ∷ 0 ∷ 0 ∷ 0 ∷ []

-- X3: X2 with three zero words more, an item that nothing refers to
unfoldable pub X3 : List ℕ
unfolding X2
X3 = X2 ++ (0 ∷ 0 ∷ 0 ∷ [])

-- X2 with another item as its expression
unfoldable pub X2With : ℕ → ℕ → ℕ → List ℕ
X2With kind first second = 4 ∷ 1 ∷ 2 ∷ 0 ∷ 0 ∷ 0 ∷ 4 ∷ 3 ∷ 4 ∷ kind ∷ first ∷ second ∷ 0 ∷ 0 ∷ 0 ∷ []

unfoldable pub layouts : List (List ℕ × Bool)
unfolding X1 X2 X3 X2With
layouts =
    (X1, true) ∷
    (X2, true) ∷
    (X3, false) ∷
    -- X4: an unused word
    (X2With 1 5 1, false) ∷
    -- X5: a boolean above 1
    (X2With 2 2 0, false) ∷ (X2With 2 1 0, true) ∷
    -- X6: name 1,024
    (X2With 3 1024 0, false) ∷ (X2With 3 1023 0, true) ∷
    -- X11: decimals have one to four places
    (X2With 5 8 0, false) ∷ (X2With 5 8 1, true) ∷ (X2With 5 2147483648 4, true) ∷ (X2With 5 8 5, false) ∷
    -- other kinds: an empty list with a word, a name with two, kind 6
    (X2With 0 1 0, false) ∷ (X2With 3 8 1, false) ∷ (X2With 6 0 0, false) ∷
    -- X7: head and tail the same item, and one item that nothing refers to
    (4 ∷ 1 ∷ 2 ∷ 0 ∷ 0 ∷ 0 ∷ 4 ∷ 4 ∷ 4 ∷ 1 ∷ 5 ∷ 0 ∷ 0 ∷ 0 ∷ 0 ∷ [], false) ∷
    -- a reference to an item that is not higher
    (4 ∷ 1 ∷ 2 ∷ 0 ∷ 0 ∷ 0 ∷ 4 ∷ 2 ∷ 4 ∷ 1 ∷ 5 ∷ 0 ∷ 0 ∷ 0 ∷ 0 ∷ [], false) ∷
    -- a tail that is an integer
    (4 ∷ 1 ∷ 2 ∷ 0 ∷ 0 ∷ 0 ∷ 4 ∷ 4 ∷ 3 ∷ 1 ∷ 5 ∷ 0 ∷ 0 ∷ 0 ∷ 0 ∷ [], false) ∷
    -- X12: a tail that is a decimal
    (4 ∷ 1 ∷ 2 ∷ 0 ∷ 0 ∷ 0 ∷ 4 ∷ 4 ∷ 3 ∷ 5 ∷ 5 ∷ 1 ∷ 0 ∷ 0 ∷ 0 ∷ [], false) ∷
    -- X8: the first element is an integer
    (4 ∷ 1 ∷ 2 ∷ 1 ∷ 5 ∷ 0 ∷ 4 ∷ 3 ∷ 4 ∷ 1 ∷ 5 ∷ 0 ∷ 0 ∷ 0 ∷ 0 ∷ [], false) ∷
    -- X9: three elements
    (4 ∷ 1 ∷ 2 ∷ 0 ∷ 0 ∷ 0 ∷ 4 ∷ 3 ∷ 4 ∷ 1 ∷ 5 ∷ 0 ∷ 4 ∷ 5 ∷ 6 ∷ 1 ∷ 6 ∷ 0 ∷ 0 ∷ 0 ∷ 0 ∷ [], false) ∷
    -- X10: four items; five items and a word
    (4 ∷ 1 ∷ 2 ∷ 0 ∷ 0 ∷ 0 ∷ 4 ∷ 3 ∷ 3 ∷ 0 ∷ 0 ∷ 0 ∷ [], false) ∷ (X2 ++ (0 ∷ []), false) ∷
    []

pub layouts-hold : map (λ l. (l.0, Table.is_layout l.0)) layouts ≡ layouts
unfolding layouts
    Lists.within Lists.all_of
    Constant.is_constant
    plain_name
    Tree.on_empty Tree.on_pair Tree.is_list Tree.elements Tree.is_list_of Tree.element
    Table.items Table.by_kind Table.constant_of Table.references Table.occurrences Table.kind_at Table.is_pair_item Table.is_item
    Table.is_referred_once Table.trees Table.tree_of Table.item_count Table.is_layout
layouts-hold = refl
