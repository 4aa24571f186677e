-- The run behind an answer of expansion, and the term that begins its core table.
use Rattle.std.proofs.Math.Path.{◌≡◌, refl, ap}
use Rattle.std.proofs.Common.{sym, subst, ◌∙◌, arith}
use Rattle.std.specs.Prelude.{List, ℕ, ◌-◌, ◌≤◌, take, replicate, Ok, Err}
use Rattle.words.specs.Code.Ground.{number_of}
use Rattle.std.proofs.Math.ListN.{length}
use Rattle.words.specs.Tables.{Stage, filled, left_at}
use Rattle.core_term.specs.PartsLaws.{encode-two}
use Rattle.expansion.specs.Run.{told, term_words, Outcome, accepted, refused_on, unfinished, stage_of, Run, core_of, run}
use Rattle.expansion.proofs.CoreTermLaws.{run-term}
use Rattle.expansion.proofs.Bounds.Gas.{run-finished}
use Rattle.expansion.proofs.Ways.Grounds.{ground-range, run-ground}
use Rattle.turns.specs.declared.answers.Refused.{Refused}
use Rattle.expander.specs.declared.Expanded.{Expanded}
use Rattle.expander.specs.Service.{Expansion, Numbers, numbers_of, ground_of, run_numbers, core_after, Served}
use Rattle.program_laws.specs.Front.{front}

module _ (items : List ℕ) (fuel work core : ℕ) where
  abbrev it : Run
  it = run items fuel work core

  -- the outcome, by the answer's numbers
  is-accepted : (x : Expanded) → numbers_of (Ok x) ≡ run_numbers it → it.outcome ≡ accepted
  unfolding numbers_of run_numbers ground_of
  is-accepted x e = go it.outcome refl (ap (λ (k : Numbers). k.ground_number) e)
    where
      go : (o : Outcome) → it.outcome ≡ o → ◌≡◌ {A = ℕ} 0 (ground_of o) → it.outcome ≡ accepted
      go accepted h z = h
      go (refused_on w g) h z = absurd (omega (arith, (ground-range w g (run-ground items fuel work core w g h)).0))
      go unfinished h z = absurd (run-finished items fuel work core h)

  is-refused : (x : Refused) → numbers_of (Err x) ≡ run_numbers it → (w : Stage) × (it.outcome ≡ refused_on w (number_of x.ground))
  unfolding numbers_of run_numbers ground_of
  is-refused x e = go it.outcome refl (ap (λ (k : Numbers). k.ground_number) e) (ap (λ (k : Numbers). k.length) e)
    where
      g : ℕ
      g = number_of x.ground

      go : (o : Outcome) → it.outcome ≡ o → g ≡ ground_of o → ◌≡◌ {A = ℕ} 0 (length (core_of it)) → (w : Stage) × (it.outcome ≡ refused_on w g)
      go accepted h z l =
          let t = run-term items fuel work core h in
          absurd (omega (arith, encode-two (told t.term), ap (λ x. length (term_words x)) t.given))
      go (refused_on w k) h z l = (w, h ∙ ap (refused_on w) (sym z))
      go unfinished h z l = absurd (run-finished items fuel work core h)

module _ (items : List ℕ) (fuel : ℕ) (work work' core core' : List ℕ) (r : Expansion) (s : Served items fuel work work' core core' r) where
  abbrev pub ran : Run
  ran = run items fuel (length work) (length core)

  -- the answer's numbers are the run's
  pub run-told : (q : Expansion) → r ≡ q → numbers_of q ≡ run_numbers ran
  run-told q h = subst (λ (z : Expansion). numbers_of z ≡ run_numbers ran) h s.numbers

  pub ran-refused : (x : Refused) → r ≡ Err x → (w : Stage) × (ran.outcome ≡ refused_on w (number_of x.ground))
  ran-refused x h = is-refused items fuel (length work) (length core) x (run-told (Err x) h)

  module _ (x : Expanded) (h : r ≡ Ok x) where
    pub ran-accepted : ran.outcome ≡ accepted
    ran-accepted = is-accepted items fuel (length work) (length core) x (run-told (Ok x) h)

    -- the core table begins with the term
    pub term-front : (to : ℕ) → to ≡ x.length → (to ≤ length core') × (take to core' ≡ core_of ran)
    unfolding numbers_of run_numbers core_after stage_of left_at filled
    term-front to w =
        front (core_of ran) (replicate (length core - length (core_of ran)) 0) core' to
        (s.core-after ∙ ap (λ (o : Outcome). left_at (stage_of o) (core_of ran) core) ran-accepted)
        (w ∙ ap (λ (k : Numbers). k.length) (run-told (Ok x) h))
