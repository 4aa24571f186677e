-- Blocks: how what variables take stands in words. A slot of a pattern is a variable outside its ellipses, or an ellipsis: one word, of a
-- variable the node that it takes, of an ellipsis its block. A block has its count, its width and for each element that the ellipsis
-- takes a row, a word for each slot of the element's pattern.
use Rattle.std.specs.Prelude.{◌≡◌, ℕ, zero, suc, ◌+◌, ◌*◌, ◌<◌, ◌≤◌, cond, List, [], ◌∷◌, nat_lt, slice_index}
use Rattle.recipe.specs.Tree.{Tree, element, tail, past}
use Rattle.expansion.specs.Rules.{Pattern, variable_p, literal_p, wildcard_p, constant_p, empty_p, pair_p, ellipsis_p}
use Rattle.expansion.specs.Match.{share, holds}
use Rattle.arena.specs.Arena.{tree_at}
use Rattle.environments.specs.Taken.{Taken, one, many}

-- ---- how many words

unfoldable pub slots : Pattern → ℕ
slots (variable_p k) = 1
slots (literal_p x) = 0
slots wildcard_p = 0
slots (constant_p a) = 0
slots empty_p = 0
slots (pair_p p q) = slots p + slots q
slots (ellipsis_p p n q) = 1 + slots q

-- f of each of a list's first c elements, added up
unfoldable pub added : (Tree → ℕ) → ℕ → Tree → ℕ
added f zero t = 0
added f (suc c) t = added f c t + f (element c t)

-- the words of all blocks: of each ellipsis at a list two, its rows, and the blocks of its elements
unfoldable pub blocks : Pattern → Tree → ℕ
blocks (variable_p k) t = 0
blocks (literal_p x) t = 0
blocks wildcard_p t = 0
blocks (constant_p a) t = 0
blocks empty_p t = 0
blocks (pair_p p q) t = blocks p (element 0 t) + blocks q (tail t)
blocks (ellipsis_p p n q) t = 2 + share n t * slots p + added (blocks p) (share n t) t + blocks q (past (share n t) t)

-- ---- where the word of a variable stands

-- the first column n further on
unfoldable pub shift : ℕ → List ℕ → List ℕ
shift n [] = []
shift n (s ∷ ss) = (n + s) ∷ ss

-- the slot of variable k, or of the ellipsis over it; then the slot in that one's element, and so on
unfoldable pub columns : Pattern → ℕ → List ℕ
columns (variable_p j) k = 0 ∷ []
columns (literal_p x) k = []
columns wildcard_p k = []
columns (constant_p a) k = []
columns empty_p k = []
columns (pair_p p q) k = cond (holds k p) (columns p k) (shift (slots p) (columns q k))
columns (ellipsis_p p n q) k = cond (holds k p) (0 ∷ columns p k) (shift 1 (columns q k))

-- ---- what words mean

abbrev pub word_in : List ℕ → ℕ → ℕ
word_in work i = slice_index work i

-- the word of slot s in row i of a block
unfoldable pub slot_at : List ℕ → (block s i : ℕ) → ℕ
slot_at work block s i = cond (nat_lt i (word_in work block)) (word_in work (block + 2 + (i * word_in work (block + 1) + s))) 0

-- a node no higher than `base` is this tree, and a block in the words from `low` to `high` has these entries in the given columns
unfoldable pub Stands : (work : List ℕ) (base low high w : ℕ) → List ℕ → ℕ → Taken → Type 0
Stands work base low high w [] x (one t) = (x ≤ base) × (tree_at work x w ≡ t)
Stands work base low high w [] x (many n f) = ⊥
Stands work base low high w (s ∷ ss) x (one t) = ⊥
Stands work base low high w (s ∷ ss) x (many n f) =
    (word_in work x ≡ n) × (low ≤ x) × (x + 2 ≤ high)
    × ((i : ℕ) → i < n → (x + 2 + (i * word_in work (x + 1) + s) < high) × Stands work base low high w ss (word_in work (x + 2 + (i * word_in work (x + 1) + s))) (f i))

-- the same of a row's word in the first column
unfoldable pub RowStands : (work : List ℕ) (base low high w row : ℕ) → List ℕ → Taken → Type 0
RowStands work base low high w row [] y = ⊥
RowStands work base low high w row (s ∷ ss) y = Stands work base low high w ss (word_in work (row + s)) y

-- the words from `low` to `high` are as they were
abbrev pub Same : (old new : List ℕ) (low high : ℕ) → Type 0
Same old new low high = (i : ℕ) → low ≤ i → i < high → word_in new i ≡ word_in old i
