-- What is written into rows above those in use changes no meaning: values, environments and stacks of lower rows are kept.
use Rattle.std.specs.Prelude.{◌≡◌, refl, List, ℕ, suc, ◌+◌, ◌*◌, ◌≤◌, ◌<◌, length}
use Rattle.std.proofs.Common.{sym, ap, ap₂, ◌∙◌, arith}
use Rattle.words.specs.Code.Packed.{packed}
use Rattle.runner.specs.Domain.{Number, numbers}
use Rattle.evaluation.specs.Evaluate.{Value, Environment, bound_e}
use Rattle.evaluation.proofs.Steps.{Waiting}
use Rattle.runner.specs.declared.rows.Value as R
use Rattle.runner.specs.declared.rows.Frame.{Frame}
use Rattle.runner.specs.Rows.{value_word, frame_word, cell_word, ValueIs, number_i, boolean_i, datum_i, closure_i, operation_i, EnvironmentIs, empty_i, cell_i, beyond_i}
use Rattle.runner.specs.Rows.{ValueIn, ValuesIn, none_i, more_i, WaitingIs, nothing_i, test_i, parts_i}
use Rattle.runner.specs.Stores.{value_set, frame_set, cell_set, value_words, frame_words, cell_words, stored_other}

-- the values, frames and cells below these counts are the same
pub record Kept (values frames cells : ℕ) (t t' : List ℕ) : Type 0 where
  pub value : (row i : ℕ) → row < values → i < 4 → value_word t' row i ≡ value_word t row i
  pub frame : (row i : ℕ) → row < frames → i < 6 → frame_word t' row i ≡ frame_word t row i
  pub cell : (row i : ℕ) → row < cells → i < 6 → cell_word t' row i ≡ cell_word t row i

pub kept_same : (values frames cells : ℕ) (t : List ℕ) → Kept values frames cells t t
kept_same values frames cells t = record { value = λ row i l k. refl; frame = λ row i l k. refl; cell = λ row i l k. refl }

pub kept_less : {values frames cells v f c : ℕ} {t t' : List ℕ} → v ≤ values → f ≤ frames → c ≤ cells → Kept values frames cells t t' → Kept v f c t t'
kept_less x y z g =
    record {
      value = λ row i l k. g.value row i (omega arith) k;
      frame = λ row i l k. g.frame row i (omega arith) k;
      cell = λ row i l k. g.cell row i (omega arith) k;
    }

-- one write after the other
pub kept_then : {values frames cells : ℕ} {t t' t'' : List ℕ} → Kept values frames cells t t' → Kept values frames cells t' t'' → Kept values frames cells t t''
kept_then g h =
    record {
      value = λ row i l k. h.value row i l k ∙ g.value row i l k;
      frame = λ row i l k. h.frame row i l k ∙ g.frame row i l k;
      cell = λ row i l k. h.cell row i l k ∙ g.cell row i l k;
    }

-- ---- what keeps them: a value, a frame or a cell written into a row that is not in use

module _ (values frames cells : ℕ) (t : List ℕ) (row : ℕ) where
  pub kept-value : (v : R.Value) → values ≤ row → Kept values frames cells t (value_set t row v)
  kept-value v h =
      record {
        value = λ r i l k. stored_other t (16 * row) (16 * r + i) (value_words v) (λ j m e. omega (arith, e));
        frame = λ r i l k. stored_other t (16 * row) (16 * r + 4 + i) (value_words v) (λ j m e. omega (arith, e));
        cell = λ r i l k. stored_other t (16 * row) (16 * r + 10 + i) (value_words v) (λ j m e. omega (arith, e));
      }

  pub kept_frame : (f : Frame) → frames ≤ row → Kept values frames cells t (frame_set t row f)
  kept_frame f h =
      record {
        value = λ r i l k. stored_other t (16 * row + 4) (16 * r + i) (frame_words f) (λ j m e. omega (arith, e));
        frame = λ r i l k. stored_other t (16 * row + 4) (16 * r + 4 + i) (frame_words f) (λ j m e. omega (arith, e));
        cell = λ r i l k. stored_other t (16 * row + 4) (16 * r + 10 + i) (frame_words f) (λ j m e. omega (arith, e));
      }

  pub kept-cell : (n : ℕ) (v : R.Value) (link : ℕ) → cells ≤ row → Kept values frames cells t (cell_set t row n v link)
  kept-cell n v link h =
      record {
        value = λ r i l k. stored_other t (16 * row + 10) (16 * r + i) (cell_words n v link) (λ j m e. omega (arith, e));
        frame = λ r i l k. stored_other t (16 * row + 10) (16 * r + 4 + i) (cell_words n v link) (λ j m e. omega (arith, e));
        cell = λ r i l k. stored_other t (16 * row + 10) (16 * r + 10 + i) (cell_words n v link) (λ j m e. omega (arith, e));
      }

-- ---- what is kept; there may be more cells than before

module _ {ws t t' : List ℕ} {values frames cells : ℕ} (g : Kept values frames cells t t') where
  mutual
    pub value-kept : {top top' : ℕ} {u : R.Value} {v : Value Number} → top ≤ cells → top ≤ top' → ValueIs ws t top u v → ValueIs ws t' top' u v
    value-kept h m (number_i w k v) = number_i w k v
    value-kept h m (boolean_i b k v) = boolean_i b k v
    value-kept h m (datum_i at k v) = datum_i at k v
    value-kept {top} {top'} h m (closure_i at e first names body env k v x l q) =
        let l' : e ≤ top' = omega arith in
        let n : e ≤ cells = omega arith in
        closure_i at e first names body env k v x l' (environment-kept n q)
    value-kept h m (operation_i p k v x) = operation_i p k v x

    pub environment-kept : {e : ℕ} {env : Environment Number} → e ≤ cells → EnvironmentIs ws t e env → EnvironmentIs ws t' e env
    environment-kept h (empty_i r x) = empty_i r x
    environment-kept h (cell_i c link v rest i x w k l q) =
        let f : (j : ℕ) → j < 6 → cell_word t' c j ≡ cell_word t c j = λ j m. g.cell c j (omega arith) m in
        let n : c ≤ cells = omega arith in
        let m : link ≤ cells = omega arith in
        cell_i c link v rest i (x ∙ ap (λ (n : ℕ). bound_e n v rest) (sym (f 0 (omega arith))))
        (rw (f 1 (omega arith), f 2 (omega arith), f 3 (omega arith), f 4 (omega arith)) (value-kept n (omega arith) w))
        (f 5 (omega arith) ∙ k) l (environment-kept m q)
    environment-kept h (beyond_i n v rest x l q) = beyond_i n v rest x l (environment-kept h q)

  module _ {cells' : ℕ} (more : cells ≤ cells') where
    pub row_kept : {row : ℕ} {v : Value Number} → row < values → ValueIn ws t cells row v → ValueIn ws t' cells' row v
    row_kept {row} h x =
        let f : (j : ℕ) → j < 4 → value_word t' row j ≡ value_word t row j = λ j m. g.value row j h m in
        record { is = rw (f 0 (omega arith), f 1 (omega arith), f 2 (omega arith), f 3 (omega arith)) (value-kept (omega arith) more x.is) }

    pub values-kept : {row : ℕ} {vs : List (Value Number)} → row + length vs ≤ values → ValuesIn ws t cells row vs → ValuesIn ws t' cells' row vs
    values-kept h none_i = none_i
    values-kept {row} h (more_i {vs = vs} x q) =
        let n : suc row + length vs ≤ values = omega arith in
        more_i (row_kept (omega arith) x) (values-kept n q)

    pub waiting_kept : {m f n : ℕ} {k : List (Waiting numbers m)} → f ≤ frames → n ≤ values → WaitingIs ws t cells m f n k → WaitingIs ws t' cells' m f n k
    waiting_kept h l nothing_i = nothing_i
    waiting_kept h l (test_i {f = f} w p e x y b q k) =
        let s : (j : ℕ) → j < 6 → frame_word t' f j ≡ frame_word t f j = λ j m. g.frame f j (omega arith) m in
        test_i (s 0 (omega arith) ∙ w) (ap₂ packed (s 2 (omega arith)) (s 1 (omega arith)) ∙ p) (s 5 (omega arith) ∙ e) x y (omega arith) (environment-kept b q) (waiting_kept (omega arith) l k)
    waiting_kept h l (parts_i {f = f} w p z o e x c vs n b q k) =
        let s : (j : ℕ) → j < 6 → frame_word t' f j ≡ frame_word t f j = λ j m. g.frame f j (omega arith) m in
        parts_i (s 0 (omega arith) ∙ w) (ap₂ packed (s 2 (omega arith)) (s 1 (omega arith)) ∙ p) (s 3 (omega arith) ∙ z) (s 4 (omega arith) ∙ o) (s 5 (omega arith) ∙ e)
        x c (values-kept (omega arith) vs) n (omega arith) (environment-kept b q) (waiting_kept (omega arith) (omega arith) k)
