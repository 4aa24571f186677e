-- Marks, and the names of a step's result: what the template gave has the new mark, what the use gave has not, so they stay apart.
use Rattle.std.specs.Prelude.{◌≡◌, refl, ◌⊎◌, Bool, List, [], ◌∷◌, ℕ, suc, ◌≤◌, ◌<◌}
use Rattle.std.proofs.Common.{ap, sym, ◌∙◌, subst, inl, inr, arith, lt-ltb, eq-eqb, ne_eqb}
use Rattle.recipe.specs.Name.{toggle}
use Rattle.simulation.specs.Marks.{Below, Kind, Marked, Older, Produced, Result, Transcribed}

-- ---- marks

-- a new mark stands before the others
pub toggle-new : (m : ℕ) (ms : List ℕ) → Older m ms → toggle m ms ≡ m ∷ ms
unfolding toggle
toggle-new m [] h = refl
toggle-new m (x ∷ xs) h = rw (ne_eqb m x (omega arith), lt-ltb x m h)

toggle-back : (m : ℕ) (ms : List ℕ) → toggle m (m ∷ ms) ≡ ms
unfolding toggle
toggle-back m ms = rw (eq-eqb m m refl)

-- met twice it cancels
pub toggle-twice : (m : ℕ) (ms : List ℕ) → Older m ms → toggle m (toggle m ms) ≡ ms
toggle-twice m ms h = ap (toggle m) (toggle-new m ms h) ∙ toggle-back m ms

pub older-le : (k l : ℕ) (ms : List ℕ) → k ≤ l → Older k ms → Older l ms
older-le k l [] h g = tt
older-le k l (x ∷ xs) h g = omega arith

-- ---- what holds of a step's result, Q of the template's names and P of the use's, all of whose marks are older than m

module _ (m : ℕ) (Q P : Kind) (bq : Below m Q) (bp : Below m P) where
  pub result-is : (k i : ℕ) (b : Bool) (ms : List ℕ) → Produced (Marked m (Transcribed m Q P)) k i b ms → Result m Q P k i b ms
  result-is k i b ms (e₀, (a, (l, inl q, e))) = (e₀, inl (a, l, q, e ∙ toggle-new m l (bq k i a l q)))
  result-is k i b ms (e₀, (a, (l, inr p, e))) = (e₀, inr (a, subst (P k i a) (sym (e ∙ ap (toggle m) p.2 ∙ toggle-twice m p.0 (bp k i a p.0 p.1))) p.1))

  pub result-below : Below (suc m) (Result m Q P)
  result-below k i b ms (e₀, inl (a, l, q, e)) = subst (Older (suc m)) (sym e) (omega arith)
  result-below k i b ms (e₀, inr (a, p)) = older-le m (suc m) ms (omega arith) (bp k i a ms p)

  pub new-is-not-old : (k j : ℕ) (b : Bool) (l ms : List ℕ) → ms ≡ m ∷ l → P k j b ms → ⊥
  new-is-not-old k j b l ms e p = let h : m < m = subst (Older m) e (bp k j b ms p) in omega arith
