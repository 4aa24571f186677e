-- Trees: what an item table holds, and what marks and bindings are carried through, at once and wholly.
use Rattle.std.specs.Prelude.{Bool, true, false, ◌&&◌, ◌||◌, List, [], ◌∷◌, ◌++◌, ℕ, zero, suc, ◌+◌, eqb, length, get_or}
use Rattle.datum.specs.Constant.{Constant}
use Rattle.datum.specs.Datum.{Datum, constant_d, name_d, list_d, Data, none_d, more_d}
use Rattle.recipe.specs.Name.{Binding, Name, is_ordinary, mark_name, produce_name, bind_name}

-- a list of n elements is n pairs and one empty list
pub data Tree : Type 0 where
  empty : Tree
  constant : Constant → Tree
  name : Name → Tree
  pair : (head tail : Tree) → Tree

-- the items of a tree
unfoldable pub size : Tree → ℕ
size empty = 1
size (constant a) = 1
size (name x) = 1
size (pair h t) = suc (size h + size t)

-- its names, from the left
unfoldable pub names : Tree → List Name
names empty = []
names (constant a) = []
names (name x) = x ∷ []
names (pair h t) = names h ++ names t

-- a tree without marks and bindings
unfoldable mutual
  pub strip : Tree → Datum
  strip empty = list_d none_d
  strip (constant a) = constant_d a
  strip (name x) = name_d x.number
  strip (pair h t) = list_d (more_d (strip h) (strip_tail t))

  pub strip_tail : Tree → Data
  strip_tail empty = none_d
  strip_tail (constant a) = none_d
  strip_tail (name x) = none_d
  strip_tail (pair h t) = more_d (strip h) (strip_tail t)

-- ---- what a tree is

module _ {A : Type 0} where
  unfoldable pub on_empty : A → A → Tree → A
  on_empty y n empty = y
  on_empty y n (constant a) = n
  on_empty y n (name x) = n
  on_empty y n (pair h t) = n

  unfoldable pub on_constant : (Constant → A) → A → Tree → A
  on_constant f n empty = n
  on_constant f n (constant a) = f a
  on_constant f n (name x) = n
  on_constant f n (pair h t) = n

  unfoldable pub on_name : (Name → A) → A → Tree → A
  on_name f n empty = n
  on_name f n (constant a) = n
  on_name f n (name x) = f x
  on_name f n (pair h t) = n

  unfoldable pub on_pair : (Tree → Tree → A) → A → Tree → A
  on_pair f n empty = n
  on_pair f n (constant a) = n
  on_pair f n (name x) = n
  on_pair f n (pair h t) = f h t

unfoldable pub is_name : Tree → Bool
is_name = on_name (λ x. true) false

-- a name other than `...` and `_`
unfoldable pub is_ordinary_name : Tree → Bool
is_ordinary_name = on_name is_ordinary false

unfoldable pub is_list : Tree → Bool
is_list t = on_empty true false t || on_pair (λ h t. true) false t

-- ---- lists

unfoldable pub elements : Tree → List Tree
elements empty = []
elements (constant a) = []
elements (name x) = []
elements (pair h t) = h ∷ elements t

unfoldable pub is_list_of : ℕ → Tree → Bool
is_list_of n t = is_list t && eqb (length (elements t)) n

-- element n, from 0
unfoldable pub element : ℕ → Tree → Tree
element n t = get_or (elements t) n empty

-- the list after its first element
unfoldable pub tail : Tree → Tree
tail = on_pair (λ h t. t) empty

-- the list after its first n elements
unfoldable pub past : ℕ → Tree → Tree
past zero t = t
past (suc n) t = past n (tail t)

-- ---- marks and bindings, carried through the whole tree immediately

unfoldable pub on_names : (Name → Name) → Tree → Tree
on_names f empty = empty
on_names f (constant a) = constant a
on_names f (name x) = name (f x)
on_names f (pair h t) = pair (on_names f h) (on_names f t)

-- every name of the tree is marked
unfoldable pub mark : ℕ → Tree → Tree
mark m = on_names (mark_name m)

-- the tree is a step's result
unfoldable pub produce : Tree → Tree
produce = on_names produce_name

-- binding name i in a body
unfoldable pub bind : Name → Binding → Tree → Tree
bind i b = on_names (bind_name i b)

-- the names bound by one form, numbered from k
unfoldable pub bind_all : (ℕ → Binding) → ℕ → List Name → Tree → Tree
bind_all f k [] t = t
bind_all f k (x ∷ xs) t = bind_all f (suc k) xs (bind x (f k) t)
