-- Binding, a value at a time.
use Rattle.std.specs.Prelude.{◌≡◌}
use Rattle.std.proofs.Math.Path.{refl, ap, subst}
use Rattle.std.proofs.Common.{◌∙◌, add-zero}
use mathlib.Core.List.{List, [], ◌∷◌}
use Prim.Native.Nat.{ℕ, suc, ◌+◌, ◌≤◌, ◌<◌}
use native.Mathlib.Omega.{arith}
use Rattle.std.proofs.Math.ListN.{length}
use Rattle.evaluation.specs.Evaluate.{Value, Environment, bound_e, bind}
use Rattle.runner.specs.declared.rows.Extended.{Extended}
use Rattle.runner.specs.Domain.{Number}
use Rattle.runner.specs.Rows.{value_at, EnvironmentIs, beyond_i, ValueIn, ValuesIn, none_i, more_i}
use Rattle.runner.specs.Stores.{cell_set}
use Rattle.runner.specs.Kept.{Kept, kept_same, kept_less, kept_then, kept-cell, row_kept}
use Rattle.runner.specs.Put.{cell-put}
use Rattle.runner.specs.Extended.{Extends, ExtendedBy}

-- ---- one value

-- what is said of one value is said of a list of one
one_value : {ws t t' : List ℕ} {cells r n row : ℕ} {env : Environment Number}
    → ((x : Value Number) → ValueIn ws t cells row x → EnvironmentIs ws t' r (bound_e n x env))
    → (vs : List (Value Number)) → length vs ≡ 1 → ValuesIn ws t cells row vs → EnvironmentIs ws t' r (bind n vs env)
unfolding bind
one_value f [] l q = absurd (omega arith)
one_value f (x ∷ []) l (more_i v q) = f x v
one_value f (x ∷ y ∷ vs) l q = absurd (omega arith)

module _ (t : List ℕ) (cells e n row : ℕ) (x : Extends t cells e row 1) where
  -- it gets the next cell
  pub extended-cell : ExtendedBy t cells e n row 1 (cell_set t cells n (value_at t row) e) (record { environment = cells + 1; cells = cells + 1 })
  extended-cell =
      record {
        below = omega arith;
        more = omega arith;
        most = omega arith;
        kept = λ values frames. kept-cell values frames cells t cells n (value_at t row) e (omega arith);
        means = λ ws vs env l q b.
            let next : suc cells ≡ cells + 1 = omega arith in
            one_value (λ v i. rw (← next) (cell-put cells x.room n (value_at t row) e x.below i.is b)) vs l q;
      }

  -- its number is no word: it gets none
  pub extended-beyond : 4294967296 ≤ n → ExtendedBy t cells e n row 1 t (record { environment = e; cells = cells })
  extended-beyond h =
      record {
        below = x.below;
        more = omega arith;
        most = omega arith;
        kept = λ values frames. kept_same values frames cells t;
        means = λ ws vs env l q b. one_value (λ v i. beyond_i n v env refl h b) vs l q;
      }

-- ---- one after the other

module _ (t₀ : List ℕ) (cells e₀ first from count : ℕ) where
  -- what is left to be bound after i values
  pub record Left (ws : List ℕ) (whole : Environment Number) (i : ℕ) (t : List ℕ) (e : ℕ) : Type 0 where
    pub values : List (Value Number)
    pub environment : Environment Number
    pub many : length values + i ≡ count
    pub rows : ValuesIn ws t₀ cells (from + i) values
    pub is : EnvironmentIs ws t e environment
    pub goes : whole ≡ bind (first + i) values environment

  pub record Binding (i : ℕ) (t : List ℕ) (e c : ℕ) : Type 0 where
    pub within : i ≤ count
    pub sized : length t ≡ length t₀
    pub below : e ≤ c
    pub more : cells ≤ c
    pub most : c ≤ cells + i
    pub kept : (values frames : ℕ) → Kept values frames cells t₀ t
    pub means : (ws : List ℕ) (vs : List (Value Number)) (env : Environment Number) → length vs ≡ count → ValuesIn ws t₀ cells from vs
        → EnvironmentIs ws t₀ e₀ env → Left ws (bind first vs env) i t e

  pub binding-start : e₀ ≤ cells → Binding 0 t₀ e₀ cells
  binding-start h =
      record {
        within = omega arith;
        sized = refl;
        below = h;
        more = omega arith;
        most = omega arith;
        kept = λ values frames. kept_same values frames cells t₀;
        means = λ ws vs env l q b.
            record {
              values = vs;
              environment = env;
              many = omega arith;
              rows = rw (add-zero from) q;
              is = b;
              goes = rw (add-zero first);
            };
      }

  module _ {i : ℕ} {t : List ℕ} {e c : ℕ} (g : Binding i t e c) where
    -- room for the next value
    pub binding-room : Extends t₀ cells e₀ from count → i < count → Extends t c e (from + i) 1
    binding-room x h =
        record {
          below = g.below;
          room = omega (arith, x.room, g.most, g.sized);
          values = omega (arith, x.values, g.sized);
          numbered = omega (arith, x.numbered, g.most);
        }

    -- the next value
    next : {t' : List ℕ} {r : Extended} {ws : List ℕ} {whole : Environment Number} → i < count → ExtendedBy t c e (first + i) (from + i) 1 t' r
        → Left ws whole i t e → Left ws whole (i + 1) t' r.environment
    unfolding bind
    next {t'} {r} {ws} {whole} h s l = go l.values l.many l.rows l.goes
      where
        go : (vs : List (Value Number)) → length vs + i ≡ count → ValuesIn ws t₀ cells (from + i) vs → whole ≡ bind (first + i) vs l.environment
            → Left ws whole (i + 1) t' r.environment
        go [] m q p = absurd (omega arith)
        go (x ∷ vs) m (more_i v q) p =
            let row : suc (from + i) ≡ from + (i + 1) = omega arith in
            let number : suc (first + i) ≡ first + (i + 1) = omega arith in
            let env = bound_e (first + i) x l.environment in
            record {
              values = vs;
              environment = env;
              many = omega arith;
              rows = subst (λ (n : ℕ). ValuesIn ws t₀ cells n vs) row q;
              is = s.means ws (x ∷ []) l.environment refl (more_i (row_kept (g.kept (suc (from + i)) 0) g.more (omega arith) v) none_i) l.is;
              goes = p ∙ ap (λ (n : ℕ). bind n vs env) number;
            }

    pub binding-more : {t' : List ℕ} {r : Extended} → i < count → length t' ≡ length t → ExtendedBy t c e (first + i) (from + i) 1 t' r → Binding (i + 1) t' r.environment r.cells
    binding-more h z s =
        record {
          within = omega arith;
          sized = z ∙ g.sized;
          below = s.below;
          more = omega (arith, s.more, g.more);
          most = omega (arith, s.most, g.most);
          kept = λ values frames. kept_then (g.kept values frames) (kept_less (omega arith) (omega arith) g.more (s.kept values frames));
          means = λ ws vs env l q b. next h s (g.means ws vs env l q b);
        }

    -- no value is left
    none_left : {ws : List ℕ} {whole : Environment Number} → i ≡ count → Left ws whole i t e → EnvironmentIs ws t e whole
    unfolding bind
    none_left {ws} {whole} h l = go l.values l.many l.goes
      where
        go : (vs : List (Value Number)) → length vs + i ≡ count → whole ≡ bind (first + i) vs l.environment → EnvironmentIs ws t e whole
        go [] m p = rw p l.is
        go (x ∷ vs) m p = absurd (omega arith)

    pub binding-end : count ≤ i → ExtendedBy t₀ cells e₀ first from count t (record { environment = e; cells = c })
    binding-end h =
        record {
          below = g.below;
          more = g.more;
          most = omega (arith, g.most, g.within);
          kept = g.kept;
          means = λ ws vs env l q b. none_left (omega (arith, g.within)) (g.means ws vs env l q b);
        }
