-- What a row means that was just written: a value, a cell, a frame that waits.
use Rattle.std.specs.Prelude.{◌≡◌, refl, List, ◌∷◌, ℕ, suc, ◌+◌, ◌*◌, ◌≤◌, ◌<◌, length, get_or}
use Rattle.std.proofs.Common.{sym, ap, ap₂, ◌∙◌, arith}
use Rattle.words.specs.Code.Packed.{packed}
use Rattle.core_term.specs.Term.{Plain, Plains, count}
use Rattle.core_term.specs.Words.{encode}
use Rattle.evaluation.specs.Code.{code_at, codes_at}
use Rattle.evaluation.specs.Evaluate.{Value, Environment, bound_e}
use Rattle.evaluation.proofs.Steps.{Waiting, test_w, parts_w}
use Rattle.runner.specs.declared.rows.Value as R
use Rattle.runner.specs.declared.rows.Branches.{Branches}
use Rattle.runner.specs.declared.rows.Parts.{Parts}
use Rattle.runner.specs.declared.rows.Frame.{Frame}
use Rattle.runner.specs.declared.rows.Frame.TheVariants as F
use Rattle.runner.specs.Domain.{Number, numbers}
use Rattle.runner.specs.Here.{Here, HereAll}
use Rattle.runner.specs.Rows.{frame_word, cell_word, ValueIs, EnvironmentIs, cell_i, ValueIn, ValuesIn, WaitingIs, test_i, parts_i}
use Rattle.runner.specs.Stores.{value_set, frame_set, cell_set, frame_words, cell_words, next_of, frame-own, cell-own, value-back, bound-back, packed-parts}
use Rattle.runner.specs.Kept.{Kept, kept-value, kept_frame, kept-cell, value-kept, environment-kept, values-kept, waiting_kept}

-- a frame's words, and the place that two of them are
module _ (t : List ℕ) (row : ℕ) (room : 16 * (row + 1) ≤ length t) (f : Frame) where
  word : (i : ℕ) → i < 6 → frame_word (frame_set t row f) row i ≡ get_or (frame_words f) i 0
  word i l = frame-own t row i room f l

  place : packed (frame_word (frame_set t row f) row 2) (frame_word (frame_set t row f) row 1) ≡ next_of f
  place = ap₂ packed (word 2 (omega arith)) (word 1 (omega arith)) ∙ packed-parts (next_of f)

module _ {ws t : List ℕ} (row : ℕ) (room : 16 * (row + 1) ≤ length t) where
  pub value-put : {cells : ℕ} (v : R.Value) {x : Value Number} → ValueIs ws t cells v x
      → ValueIn ws (value_set t row v) cells row x
  value-put {cells} v x =
      let g : Kept row 0 cells t (value_set t row v) = kept-value row 0 cells t row v (omega arith) in
      record { is = rw (value-back t row room v) (value-kept g (omega arith) (omega arith) x) }

  -- a variable before those of an environment
  pub cell-put : (n : ℕ) (v : R.Value) (e : ℕ) {x : Value Number} {env : Environment Number} → e ≤ row
      → ValueIs ws t row v x → EnvironmentIs ws t e env → EnvironmentIs ws (cell_set t row n v e) (suc row) (bound_e n x env)
  cell-put n v e {x} {env} h w q =
      let f : (i : ℕ) → i < 6 → cell_word (cell_set t row n v e) row i ≡ get_or (cell_words n v e) i 0 = λ i l. cell-own t row i room n v e l in
      let g : Kept 0 0 row t (cell_set t row n v e) = kept-cell 0 0 row t row n v e (omega arith) in
      cell_i row e x env refl (ap (λ (m : ℕ). bound_e m x env) (sym (f 0 (omega arith))))
      (rw (bound-back t row room n v e) (value-kept g (omega arith) (omega arith) w))
      (f 5 (omega arith)) h (environment-kept g h q)

  module _ {cells m : ℕ} where
    -- the test of an if, on top of what waits
    pub test-put : (b : Branches) (values : ℕ) {y z : Plain} {env : Environment Number} {k : List (Waiting numbers m)}
        → Here ws b.next y → Here ws (b.next + length (encode y)) z → b.environment ≤ cells → EnvironmentIs ws t b.environment env → WaitingIs ws t cells m row values k
        → WaitingIs ws (frame_set t row (F.Test b)) cells m (suc row) values (test_w (code_at b.next y) (code_at (b.next + length (encode y)) z) env ∷ k)
    test-put b values x y h q k =
        let f = F.Test b in
        let g : Kept values row cells t (frame_set t row f) = kept_frame values row cells t row f (omega arith) in
        let own = word t row room f in
        test_i (own 0 (omega arith)) (place t row room f) (own 5 (omega arith)) x y h (environment-kept g h q) (waiting_kept g (omega arith) (omega arith) (omega arith) k)

    -- the parts of an application
    pub parts-put : (p : Parts) (values : ℕ) {ts : Plains} {vs : List (Value Number)} {env : Environment Number} {k : List (Waiting numbers m)}
        → HereAll ws p.next ts → count ts ≡ p.left → ValuesIn ws t cells p.base vs → p.base + length vs ≡ values → p.environment ≤ cells
        → EnvironmentIs ws t p.environment env → WaitingIs ws t cells m row p.base k
        → WaitingIs ws (frame_set t row (F.Parts p)) cells m (suc row) values (parts_w vs (codes_at p.next ts) env ∷ k)
    parts-put p values x c vs n h q k =
        let f = F.Parts p in
        let g : Kept values row cells t (frame_set t row f) = kept_frame values row cells t row f (omega arith) in
        let own = word t row room f in
        parts_i (own 0 (omega arith)) (place t row room f) (own 3 (omega arith)) (own 4 (omega arith)) (own 5 (omega arith)) x c (values-kept g (omega arith) (omega arith) vs) n h
        (environment-kept g h q) (waiting_kept g (omega arith) (omega arith) (omega arith) k)
