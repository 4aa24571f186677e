use Rattle.std.proofs.Common.{◌≡◌, length, ℕ, ◌≤◌, List, true, false, refl, arith, drop, length-drop, Ok, Err}
use Rattle.std.specs.Ordering.{partial_lt}
use Rattle.std.proofs.lemmas.Result.{err_from_is_err_and}
use Rattle.supplier.specs.contracts.front.DifferencePartialOrd.TheImpl.{partial_cmp-value}
use Rattle.supplier.specs.declared.front.Difference.{Difference}
use Rattle.supplier.specs.declared.front.Difference.TheVariants.{Other, Open, Outside}
use Rattle.supplier.specs.Told.{Walked, found_of, Within, Told}
use Rattle.supplier.specs.Walk.{left_of, joined}
use Rattle.supplier.specs.ToldLaws.{joined-both, joined-then, joined-first}
use Rattle.supplier.proofs.walk.joined.Goals as goal

module _ (ws vs : List ℕ) where
  up : (d e : Difference) → true ≡ partial_lt partial_cmp-value.it d e → Told ws (joined (found_of ws (Err d)) (found_of vs (Err e))) (Err e)
  unfolding found_of joined
  up Other Other h = record { is = refl; within = tt }
  up Other Open h = record { is = refl; within = tt }
  up Other Outside h = record { is = refl; within = tt }
  up Open Other h = cc
  up Open Open h = record { is = refl; within = tt }
  up Open Outside h = record { is = refl; within = tt }
  up Outside Other h = cc
  up Outside Open h = cc
  up Outside Outside h = record { is = refl; within = tt }

  kept : (d e : Difference) → false ≡ partial_lt partial_cmp-value.it d e → Told ws (joined (found_of ws (Err d)) (found_of vs (Err e))) (Err d)
  unfolding found_of joined
  kept Other Other h = record { is = refl; within = tt }
  kept Other Open h = cc
  kept Other Outside h = cc
  kept Open Other h = record { is = refl; within = tt }
  kept Open Open h = record { is = refl; within = tt }
  kept Open Outside h = cc
  kept Outside Other h = record { is = refl; within = tt }
  kept Outside Open h = record { is = refl; within = tt }
  kept Outside Outside h = record { is = refl; within = tt }

-- of both as they are
both : (ws : List ℕ) (b f b' f' r : Walked) → b ≡ b' → f ≡ f' → Told ws (joined (found_of ws b') (found_of (left_of (found_of ws b')) f')) r
    → Told ws (joined (found_of ws b) (found_of (left_of (found_of ws b)) f)) r
both ws b f b' f' r e g t = rw (e, g) t

pub returns-in_err-found-in-Ok : goal.returns-in_err-found-in-Ok
returns-in_err-found-in-Ok c =
    let p = err_from_is_err_and c.from_residual.result c.from_residual.ensures.1 in
    rw (p.1, p.2) (both _ _ _ _ _ _ c.in-Ok.is c.in_err-found-in-Ok.was (joined-then _ _ _ _))

-- of two that are the same so far
words-left : (ws : List ℕ) (b f : Walked) (n m : ℕ) → b ≡ Ok n → f ≡ Ok m → Within ws b × Within (left_of (found_of ws b)) f → (n ≤ length ws) × (m ≤ length (drop n ws))
unfolding found_of left_of
words-left ws b f n m e g h = rw (e, g) at h

pub overflow_add-result : goal.overflow_add-result
overflow_add-result c =
    let w = words-left _ _ _ _ _ c.in-Ok.is c.in_ok-found-in-Ok.was c.requires in
    record { fits = omega (arith, w, length-drop c.in-Ok.taken c.args.words.now, c.well_formed) }

pub returns-then-lt : goal.returns-then-lt
returns-then-lt c = both _ _ _ _ _ _ c.in-Err.is c.in-Err-found.is (up _ _ _ _ c.if-lt.ensures)

pub returns-in_ok-found-in-Ok : goal.returns-in_ok-found-in-Ok
returns-in_ok-found-in-Ok c =
    let w = words-left _ _ _ _ _ c.in-Ok.is c.in_ok-found-in-Ok.was c.requires in
    both _ _ _ _ _ _ c.in-Ok.is c.in_ok-found-in-Ok.was (joined-both _ _ _ w.0 w.1)

pub returns-in-Ok-found : goal.returns-in-Ok-found
returns-in-Ok-found c = both _ _ _ _ _ _ c.in-Err.is c.in-Ok-found.is (joined-first _ _ _ _)

pub returns-else-lt : goal.returns-else-lt
returns-else-lt c = both _ _ _ _ _ _ c.in-Err.is c.in-Err-found.is (kept _ _ _ _ c.if-lt.ensures)
