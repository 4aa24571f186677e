-- Marks, and the names of a step's result: what the template gave has the new mark, what the use gave has not, so they stay apart.
use Rattle.std.specs.Prelude.{◌≡◌, ◌⊎◌, Bool, true, List, [], ◌∷◌, ℕ, ◌≤◌, ◌<◌}
use Rattle.std.proofs.Common.{◌∙◌}
use Rattle.recipe.specs.Name.{Name, toggle}

-- ---- what is known of the names of a tree

-- a statement about a name's number, item, `produced` and marks, in the first run
abbrev pub Kind : Type 1
Kind = (number item : ℕ) (produced : Bool) (marks : List ℕ) → Type 0

abbrev pub Of : Kind → Name → Type 0
Of Q x = Q x.number x.item x.produced x.marks

-- ---- marks

-- the newest mark is older than m
abbrev pub Older : ℕ → List ℕ → Type 0
Older m [] = Unit {0}
Older m (x ∷ xs) = x < m

abbrev pub Below : ℕ → Kind → Type 0
Below m Q = (k i : ℕ) (b : Bool) (ms : List ℕ) → Q k i b ms → Older m ms

-- ---- the names of a step, as it goes on

-- names that are marked
abbrev pub Marked : ℕ → Kind → Kind
Marked m Q = λ k i b ms. (l : List ℕ) × Q k i b l × (ms ≡ toggle m l)

-- names of a result
abbrev pub Produced : Kind → Kind
Produced Q = λ k i b ms. (b ≡ true) × ((a : Bool) × Q k i a ms)

-- transcribed: the template's names as they are, the use's marked
abbrev pub Transcribed : ℕ → Kind → Kind → Kind
Transcribed m Q P = λ k i b ms. Q k i b ms ⊎ Marked m P k i b ms

-- a step's result: the template's names have the mark m, and the use's have their marks again
abbrev pub Result : ℕ → Kind → Kind → Kind
Result m Q P = λ k i b ms. (b ≡ true) × (((a : Bool) × (l : List ℕ) × Q k i a l × (ms ≡ m ∷ l)) ⊎ ((a : Bool) × P k i a ms))
