-- From turn to turn: a turn stands for all that the first stood for, until one value is left.
use Rattle.std.specs.Prelude.{◌≡◌, refl, List, [], ℕ, ◌<◌}
use Rattle.std.proofs.Common.{sym, subst, ap, ◌∙◌, arith}
use Rattle.evaluation.specs.Computation.{Out, give}
use Rattle.evaluation.specs.Evaluate.{Value}
use Rattle.evaluation.proofs.Steps.{Waiting, resume}
use Rattle.runner.specs.declared.state.Counts.{Counts}
use Rattle.runner.specs.declared.state.Turn.{Turn}
use Rattle.runner.specs.Domain.{Number, numbers}
use Rattle.runner.specs.Rows.{value_at, ValueIn, WaitingIs, nothing_i, test_i, parts_i}
use Rattle.runner.specs.Machine.{Coming, Valued, Stands, TurnIs, measure}

-- the turn now stands for something, and for all that the first one stood for
pub record Follows (ws : List ℕ) (budget : ℕ) (t₀ : List ℕ) (turn₀ : Turn) (t : List ℕ) (turn : Turn) : Type 0 where
  pub stands : Stands (λ whole. TurnIs ws budget whole t turn)
  pub same : (whole : Out (Value Number)) → TurnIs ws budget whole t₀ turn₀ → TurnIs ws budget whole t turn

module _ {ws : List ℕ} {budget : ℕ} {t₀ : List ℕ} {turn₀ : Turn} {t : List ℕ} {turn : Turn} (f : Follows ws budget t₀ turn₀ t turn) where
  pub follows-as : {turn' : Turn} → turn ≡ turn' → Follows ws budget t₀ turn₀ t turn'
  follows-as e = subst (λ (x : Turn). Follows ws budget t₀ turn₀ t x) e f

  pub follows_then : (t' : List ℕ) (turn' : Turn) → ((whole : Out (Value Number)) → TurnIs ws budget whole t turn → TurnIs ws budget whole t' turn')
      → Follows ws budget t₀ turn₀ t' turn'
  follows_then t' turn' g = record { stands = (f.stands.0, g f.stands.0 f.stands.1); same = λ whole x. g whole (f.same whole x) }

-- what falls below the fuel of a turn
pub falls-as : (budget : ℕ) {n : ℕ} {turn turn' : Turn} → turn ≡ turn' → n < measure budget turn' → n < measure budget turn
falls-as budget {n} e l = subst (λ (x : Turn). n < measure budget x) (sym e) l

-- no frame is left: nothing waits
record Nothing (n budget : ℕ) (k : List (Waiting numbers budget)) : Type 0 where
  pub values : n ≡ 0
  pub waits : k ≡ []

nothing : {ws t : List ℕ} {cells m frames n : ℕ} {k : List (Waiting numbers m)} → WaitingIs ws t cells m frames n k → frames ≡ 0 → Nothing n m k
nothing nothing_i z = record { values = refl; waits = refl }
nothing (test_i a b c d e f g h) z = absurd (omega arith)
nothing (parts_i a b c d e f g h i j k l) z = absurd (omega arith)

-- the value that is left is the whole
pub last-comes : {ws : List ℕ} {budget : ℕ} {whole : Out (Value Number)} {t : List ℕ} (s : Counts) → s.frames ≡ 0 → Coming ws budget whole t s
    → Valued ws budget whole t (value_at t 0) s.units
unfolding resume give
last-comes {ws} {budget} {whole} {t} s z x =
    let n = nothing x.stacked z in
    record {
      value = x.value;
      cells = s.cells;
      is = (subst (λ (row : ℕ). ValueIn ws t s.cells row x.value) n.values x.is).is;
      goes = x.goes ∙ ap (λ (k : List (Waiting numbers budget)). resume numbers budget k x.value s.units) n.waits;
    }
