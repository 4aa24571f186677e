-- Known runs of item tables with given fuel and lengths of the lent tables: grounds 7 to 10 in this order.
use Rattle.std.specs.Prelude.{◌≡◌, refl, true, false, List, [], ◌∷◌, map, ℕ, zero, suc}
use Rattle.words.specs.Tables.{testing}
use Rattle.recipe.specs.Name.{plain_name}
use Rattle.recipe.specs.Tree.{Tree, empty, name, pair}
use Rattle.recipe.specs.Rows.{X1, X2, X3}
use Rattle.expansion.specs.Run.{Outcome, accepted, refused_on, core_of, are_operations}
use Rattle.expansion.specs.Computed.{computed}

pub record Row : Type 0 where
  pub items : List ℕ
  pub fuel : ℕ
  pub work : ℕ
  pub core : ℕ
  pub outcome : Outcome
  pub words : List ℕ

unfoldable pub row : List ℕ → (fuel work core : ℕ) → Outcome → List ℕ → Row
row items fuel work core outcome words =
    record { items = items; fuel = fuel; work = work; core = core; outcome = outcome; words = words }

-- the row that the definition gives
unfoldable pub ran : Row → Row
unfolding computed row
ran r =
    let run = computed r.items r.fuel r.work r.core in
    row r.items r.fuel r.work r.core run.outcome (core_of run)

-- `(if) 5`, whose operation is below 8
unfoldable pub if_as_operation : List ℕ
if_as_operation = 4 ∷ 1 ∷ 4 ∷ 4 ∷ 2 ∷ 3 ∷ 3 ∷ 1 ∷ 0 ∷ 0 ∷ 0 ∷ 0 ∷ 4 ∷ 5 ∷ 6 ∷ 1 ∷ 5 ∷ 0 ∷ 0 ∷ 0 ∷ 0 ∷ []

-- `(f) (f 0.80)`
unfoldable pub with_decimal : List ℕ
with_decimal =
    4 ∷ 1 ∷ 4 ∷ 4 ∷ 2 ∷ 3 ∷ 3 ∷ 8 ∷ 0 ∷ 0 ∷ 0 ∷ 0 ∷ 4 ∷ 5 ∷ 10 ∷ 4 ∷ 6 ∷ 7 ∷ 3 ∷ 8 ∷ 0 ∷ 4 ∷ 8 ∷ 9 ∷ 5 ∷ 80 ∷ 2 ∷ 0 ∷ 0 ∷ 0 ∷ 0 ∷ 0 ∷ 0 ∷ []

unfoldable pub rows : List Row
unfolding row X1 X2 X3 if_as_operation with_decimal
rows =
    -- X1, X2, F4: accepted with the least tables, no fuel needed
    row X1 0 120 15 accepted (2 ∷ 5 ∷ []) ∷
    row X2 0 120 15 accepted (2 ∷ 5 ∷ []) ∷
    -- the most fuel, and larger tables
    row X2 8192 200000 25000 accepted (2 ∷ 5 ∷ []) ∷
    -- F4: one work word too few, one core word too few
    row X2 0 119 15 (refused_on testing 9) [] ∷
    row X2 0 120 14 (refused_on testing 9) [] ∷
    -- fuel counts like items
    row X2 1 143 18 (refused_on testing 9) [] ∷
    row X2 1 144 17 (refused_on testing 9) [] ∷
    row X2 1 144 18 accepted (2 ∷ 5 ∷ []) ∷
    -- F9: a decimal's three words, and one core word too few
    row with_decimal 0 264 33 accepted (8 ∷ 1 ∷ 1 ∷ 0 ∷ 9 ∷ 80 ∷ 2 ∷ []) ∷
    row with_decimal 0 264 32 (refused_on testing 9) [] ∷
    -- F4: 7 before 8, 8 before 9, 9 before 10
    row X3 8193 0 0 (refused_on testing 7) [] ∷
    row X2 8193 0 0 (refused_on testing 8) [] ∷
    row if_as_operation 0 167 21 (refused_on testing 9) [] ∷
    row if_as_operation 0 168 21 (refused_on testing 10) [] ∷
    []

pub rows-hold : map ran rows ≡ rows
unfolding ran rows
rows-hold = refl

-- ---- ground 10: at most 256 operations

-- n operations, numbered from k
unfoldable pub operations_from : ℕ → ℕ → Tree
operations_from k zero = empty
operations_from k (suc n) = pair (name (plain_name k 0)) (operations_from (suc k) n)

pub operations-hold : map (λ n. are_operations (pair (operations_from 8 n) empty)) (256 ∷ 257 ∷ []) ≡ true ∷ false ∷ []
unfolding operations_from computed
operations-hold = refl
