-- A table that keeps for each place, as far as it reaches, where the term or datum that begins there ends; 0 where that is not known.
-- What it keeps is true; that it keeps all is a matter of cost alone.
use Rattle.std.specs.Prelude.{◌≡◌, refl, List, ℕ, zero, suc, ◌+◌, ◌<◌, eqb, length, get_or, set, replicate}
use Rattle.std.proofs.Common.{sym, subst, ◌∙◌, get_or-set_same, get_or-set_other, eqb-true}
use Rattle.std.proofs.lemmas.Bool.{eqb-false}
use Rattle.words.specs.ListLaws.{either}
use Rattle.core_term.specs.Term.{Plain}
use Rattle.core_term.specs.Words.{encode}
use Rattle.runner.specs.Here.{Here}

-- some term or datum stands at a place
abbrev pub Placed : (ws : List ℕ) (at : ℕ) → Type 0
Placed ws at = (t : Plain) × Here ws at t

-- the one at a place ends there
abbrev pub EndsAt : (ws : List ℕ) (at end : ℕ) → Type 0
EndsAt ws at end = (t : Plain) → Here ws at t → end ≡ at + length (encode t)

pub record Memo (ws ends : List ℕ) : Type 0 where
  pub known : (at : ℕ) → (get_or ends at 0 ≡ 0 → ⊥) → EndsAt ws at (get_or ends at 0)

-- an empty table knows nothing
none-known : (n at : ℕ) → get_or {A = ℕ} (replicate n 0) at 0 ≡ 0
none-known zero at = refl
none-known (suc n) zero = refl
none-known (suc n) (suc at) = none-known n at

pub memo-none : (ws : List ℕ) (n : ℕ) → Memo ws (replicate n 0)
memo-none ws n = record { known = λ at h. absurd (h (none-known n at)) }

-- one more end
pub memo-put : {ws ends : List ℕ} (at end : ℕ) → at < length ends → Memo ws ends → EndsAt ws at end → Memo ws (set ends at end)
memo-put {ws} {ends} at end l m e =
    record {
      known = λ p h.
          either (eqb p at)
          (λ b. subst (λ (q : ℕ). EndsAt ws q (get_or (set ends at end) q 0)) (sym (eqb-true p at b)) (λ t x. get_or-set_same ends at end 0 l ∙ e t x))
          (λ b. let i : get_or (set ends at end) p 0 ≡ get_or ends p 0 = get_or-set_other ends at p end 0 (eqb-false p at b) in rw i (m.known p (λ z. h (i ∙ z))));
    }
