-- What the rows of the lent table mean: values, environments, and what waits for a value. A cell refers to lower cells only, so what it
-- means depends on the cells below it alone, and a cell that is put on top changes no earlier meaning.
use Rattle.std.specs.Prelude.{◌≡◌, List, [], ◌∷◌, ℕ, zero, suc, ◌+◌, ◌*◌, ◌≤◌, ◌<◌, eqb, length, get_or, Bool}
use Rattle.words.specs.Code.Packed.{packed}
use Rattle.core_term.specs.Term.{lambda_c, Plain, Plains, count}
use Rattle.core_term.specs.Words.{encode}
use Rattle.evaluation.specs.Code.{code_at, codes_at}
use Rattle.runner.specs.Domain.{Number, numbers, number_in}
use Rattle.evaluation.specs.Evaluate.{Value, number_v, boolean_v, datum_v, closure_v, operation_v, Environment, empty_e, bound_e}
use Rattle.evaluation.proofs.Steps.{Waiting, test_w, parts_w}
use Rattle.runner.specs.Here.{Here, HereAll}
use Rattle.runner.specs.declared.rows.Value as R
use Rattle.runner.specs.declared.rows.Value.TheVariants as RV

-- ---- words

abbrev pub value_word : List ℕ → (row i : ℕ) → ℕ
value_word t row i = get_or t (16 * row + i) 0

abbrev pub frame_word : List ℕ → (row i : ℕ) → ℕ
frame_word t row i = get_or t (16 * row + 4 + i) 0

abbrev pub cell_word : List ℕ → (row i : ℕ) → ℕ
cell_word t row i = get_or t (16 * row + 10 + i) 0

-- the value that four words are
abbrev pub value_of : (kind a b e : ℕ) → R.Value
value_of zero a b e = RV.Operation a
value_of (suc zero) a b e = RV.Number a
value_of (suc (suc zero)) a b e = RV.Boolean (eqb a 1)
value_of (suc (suc (suc zero))) a b e = RV.Datum (packed b a)
value_of (suc (suc (suc (suc zero)))) a b e = RV.Closure (packed b a) e
value_of (suc (suc (suc (suc (suc k))))) a b e = RV.Operation a

-- the value of a row, and that of a row's cell
abbrev pub value_at : List ℕ → (row : ℕ) → R.Value
value_at t row = value_of (value_word t row 0) (value_word t row 1) (value_word t row 2) (value_word t row 3)

abbrev pub bound_at : List ℕ → (row : ℕ) → R.Value
bound_at t row = value_of (cell_word t row 1) (cell_word t row 2) (cell_word t row 3) (cell_word t row 4)

-- ---- values and environments

module _ (ws t : List ℕ) where
  mutual
    -- what a value means, whose environment has cells below `top` alone
    pub data ValueIs : (top : ℕ) → R.Value → Value Number → Type 0 where
      number_i : {top : ℕ} {u : R.Value} {v : Value Number} (w : ℕ) → u ≡ RV.Number w → v ≡ number_v (number_in w 0) → ValueIs top u v
      boolean_i : {top : ℕ} {u : R.Value} {v : Value Number} (b : Bool) → u ≡ RV.Boolean b → v ≡ boolean_v b → ValueIs top u v
      datum_i : {top : ℕ} {u : R.Value} {v : Value Number} (at : ℕ) → u ≡ RV.Datum at → v ≡ datum_v at → ValueIs top u v
      closure_i : {top : ℕ} {u : R.Value} {v : Value Number} (at e first : ℕ) (names : List ℕ) (body : Plain) (env : Environment Number)
          → u ≡ RV.Closure at e → v ≡ closure_v first (length names) (code_at (at + (3 + length names)) body) env
          → Here ws at (lambda_c first names body) → e ≤ top → EnvironmentIs e env → ValueIs top u v
      operation_i : {top : ℕ} {u : R.Value} {v : Value Number} (p : ℕ) → u ≡ RV.Operation p → v ≡ operation_v p → p < 4 → ValueIs top u v

    -- 0 is no variable; suc c is the variable of cell c before those that it links to. A number that no word holds has no cell
    pub data EnvironmentIs : ℕ → Environment Number → Type 0 where
      empty_i : {r : ℕ} {env : Environment Number} → r ≡ 0 → env ≡ empty_e → EnvironmentIs r env
      cell_i : {r : ℕ} {env : Environment Number} (c link : ℕ) (v : Value Number) (rest : Environment Number) → r ≡ suc c → env ≡ bound_e (cell_word t c 0) v rest
          → ValueIs c (bound_at t c) v → cell_word t c 5 ≡ link → link ≤ c → EnvironmentIs link rest → EnvironmentIs r env
      beyond_i : {r : ℕ} {env : Environment Number} (n : ℕ) (v : Value Number) (rest : Environment Number) → env ≡ bound_e n v rest → 4294967296 ≤ n → EnvironmentIs r rest → EnvironmentIs r env

-- ---- stacks

module _ (ws t : List ℕ) (cells : ℕ) where
  -- the value in a row
  pub record ValueIn (row : ℕ) (v : Value Number) : Type 0 where
    pub is : ValueIs ws t cells (value_at t row) v

  -- values one above the other, from a row on
  pub data ValuesIn : ℕ → List (Value Number) → Type 0 where
    none_i : {row : ℕ} → ValuesIn row []
    more_i : {row : ℕ} {v : Value Number} {vs : List (Value Number)} → ValueIn row v → ValuesIn (suc row) vs → ValuesIn row (v ∷ vs)

  -- what waits for a value: `frames` frames, the values of whose parts take up `values` rows
  pub data WaitingIs (m : ℕ) : (frames values : ℕ) → List (Waiting numbers m) → Type 0 where
    nothing_i : WaitingIs m 0 0 []
    test_i : {f n next e : ℕ} {y z : Plain} {env : Environment Number} {k : List (Waiting numbers m)}
        → frame_word t f 0 ≡ 1 → packed (frame_word t f 2) (frame_word t f 1) ≡ next → frame_word t f 5 ≡ e
        → Here ws next y → Here ws (next + length (encode y)) z → e ≤ cells → EnvironmentIs ws t e env
        → WaitingIs m f n k
        → WaitingIs m (suc f) n (test_w (code_at next y) (code_at (next + length (encode y)) z) env ∷ k)
    parts_i : {f n next left base e : ℕ} {ts : Plains} {vs : List (Value Number)} {env : Environment Number} {k : List (Waiting numbers m)}
        → frame_word t f 0 ≡ 2 → packed (frame_word t f 2) (frame_word t f 1) ≡ next → frame_word t f 3 ≡ left → frame_word t f 4 ≡ base → frame_word t f 5 ≡ e
        → HereAll ws next ts → count ts ≡ left → ValuesIn base vs → base + length vs ≡ n → e ≤ cells → EnvironmentIs ws t e env
        → WaitingIs m f base k
        → WaitingIs m (suc f) n (parts_w vs (codes_at next ts) env ∷ k)
