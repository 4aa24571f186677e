-- The grounds of a run, by its stage: 7 to 10 before it begins, and 11 to 18 in its expansion.
use Rattle.std.specs.Prelude.{◌≡◌, List, ℕ, ◌≤◌}
use Rattle.std.proofs.Common.{sym, subst, arith}
use Rattle.words.specs.Tables.{Stage, testing, begun}
use Rattle.expansion.specs.Computation.{start}
use Rattle.expansion.specs.Run.{refused_on, ended, unbegun, expand_recipe, run}
use Rattle.expansion.specs.RunLaws.{GroundIn}
use Rattle.expansion.proofs.RunLaws.{accepted≢refused_on, refused_on≢unfinished, run_holds}
use Rattle.expansion.proofs.WaysLaws.{expand-keeps}

pub ground-range : (w : Stage) (g : ℕ) → GroundIn w g → (7 ≤ g) × (g ≤ 18)
ground-range testing g l = (l.0, omega (arith, l.1))
ground-range begun g l = (omega (arith, l.0), l.1)

-- a refusal tells its stage and its ground
told : (v w : Stage) (g h : ℕ) → refused_on v g ≡ refused_on w h → GroundIn v g → GroundIn w h
told v w g h e l = let a : v ≡ w = cc in let b : g ≡ h = cc in subst (GroundIn w) b (subst (λ x. GroundIn x g) a l)

pub run-ground : (items : List ℕ) (fuel work core : ℕ) (w : Stage) (h : ℕ) → (run items fuel work core).outcome ≡ refused_on w h → GroundIn w h
unfolding unbegun ended expand_recipe
run-ground items fuel work core w h =
    run_holds (λ r. r.outcome ≡ refused_on w h → GroundIn w h) items fuel work core (λ b. expand-keeps _ _ _ fuel _ _ start)
    (λ g l e. told testing w g h e l)
    (λ b t s l q e. absurd (accepted≢refused_on w h e))
    (λ b g s l q e. told begun w g h e q.ground_number)
    (λ b l x e. absurd (refused_on≢unfinished w h (sym e)))
