-- The table of places that ground 10 leaves says of every name what the definition finds.
use Rattle.std.specs.Prelude.{◌≡◌, refl, true, cond, List, [], ◌∷◌, ℕ, zero, suc, ◌-◌, ◌≤◌, ◌<◌, ltb, length, get_or}
use Rattle.std.proofs.Common.{ap, sym, ◌∙◌, arith, ltb-true, ltb-false, ne_eqb}
use Rattle.words.specs.Limits.{names_most, base_name_count}
use Rattle.words.specs.Lists.{all_of}
use Rattle.words.specs.TestLaws.{all-parts}
use Rattle.expansion.specs.Lookup.{form, nothing, form_of, place_from, unbound_meaning}
use Rattle.words.specs.ListLaws.{either}
use Rattle.resolution.specs.Names.{operation_at, unbound_in}
use Rattle.layout.specs.Places.{placed, Places}

placed-is : (p : ℕ) → operation_at p ≡ placed p
unfolding operation_at placed
placed-is zero = refl
placed-is (suc p) = let e : suc p - 1 ≡ p = omega arith in rw (ne_eqb (suc p) 0 (λ z. omega arith), e)

past-table : (table : List ℕ) (n : ℕ) → length table ≤ n → get_or table n 0 ≡ 0
past-table [] n h = refl
past-table (x ∷ xs) zero h = absurd (omega arith)
past-table (x ∷ xs) (suc n) h = past-table xs n (omega arith)

unplaced : (k n : ℕ) (ops : List ℕ) → all_of (λ x. ltb x names_most) ops ≡ true → names_most ≤ n → place_from k n ops ≡ nothing
unfolding place_from
unplaced k n [] e h = refl
unplaced k n (x ∷ xs) e h =
    let g = all-parts (λ y. ltb y names_most) x xs e in
    let l : x < names_most = ltb-true x names_most g.0 in
    rw (ne_eqb x n (λ z. omega arith)) (unplaced (suc k) n xs g.1 h)

pub places-lent : (table ops : List ℕ) → Places table ops → length table ≡ names_most → all_of (λ x. ltb x names_most) ops ≡ true → (n : ℕ) → unbound_in table n ≡ unbound_meaning ops n
unfolding unbound_in unbound_meaning operation_at
places-lent table ops p long small n = ap (cond (ltb n base_name_count) (form (form_of n))) later
  where
    later : operation_at (get_or table n 0) ≡ place_from 0 n ops
    later =
        either (ltb n names_most)
        (λ t. placed-is (get_or table n 0) ∙ p n (ltb-true n names_most t))
        (λ t.
        let h : names_most ≤ n = ltb-false n names_most t in
        ap operation_at (past-table table n (omega arith)) ∙ sym (unplaced 0 n ops small h))
