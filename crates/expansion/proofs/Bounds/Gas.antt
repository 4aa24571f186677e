-- No run is out of gas: the items of the recipe and the fuel together are enough. So an accepted run has gone all the way.
use Rattle.std.specs.Prelude.{◌≡◌, refl, List, ℕ, ◌+◌}
use Rattle.std.proofs.Common.{sym, arith}
use Rattle.std.proofs.Math.Option.{none, some}
use Rattle.words.specs.Limits.{macros_most}
use Rattle.recipe.specs.Name.{Name}
use Rattle.recipe.specs.Tree.{Tree, size, element}
use Rattle.recipe.specs.TreeLaws.{element-size}
use Rattle.recipe.specs.Table.{tree_of}
use Rattle.core_term.specs.Term.{Term}
use Rattle.expansion.specs.Computation.{start}
use Rattle.expansion.specs.Run.{accepted, unfinished, ended, unbegun, operation_numbers, expand_recipe, run}
use Rattle.expansion.specs.RunLaws.{Begun}
use Rattle.expansion.proofs.RunLaws.{accepted≢refused_on, accepted≢unfinished, refused_on≢unfinished, run_holds}
use Rattle.expansion.specs.Bounds.Budget.{SpendsTerm}
use Rattle.expansion.proofs.Bounds.BudgetLaws.{expand-spends}

-- a recipe's expansion is not out of gas, and spends no more than it may
pub expand_recipe-spends : (limit fuel : ℕ) (t : Tree) → SpendsTerm fuel (size (element 1 t)) start (expand_recipe limit fuel t)
unfolding expand_recipe start
expand_recipe-spends limit fuel t =
    expand-spends limit macros_most (operation_numbers t) fuel (size t + fuel) (element 1 t) start (record { paid = omega arith; bounded = omega arith }) (omega (arith, element-size 1 t))

pub run-finished : (items : List ℕ) (fuel work core : ℕ) → (run items fuel work core).outcome ≡ unfinished → ⊥
unfolding unbegun ended
run-finished items fuel work core =
    run_holds (λ r. r.outcome ≡ unfinished → ⊥) items fuel work core (λ b. expand_recipe-spends _ fuel (tree_of items))
    (λ g _. refused_on≢unfinished _ g)
    (λ b t s l q. accepted≢unfinished)
    (λ b g s l r. refused_on≢unfinished _ g)
    (λ b l x. absurd x)

-- an accepted run has passed grounds 7 to 10
pub accepted-begun : (items : List ℕ) (fuel work core : ℕ) → (run items fuel work core).outcome ≡ accepted → Begun items fuel work core
unfolding unbegun ended
accepted-begun items fuel work core =
    run_holds (λ r. r.outcome ≡ accepted → Begun items fuel work core) items fuel work core (λ b. expand_recipe-spends _ fuel (tree_of items))
    (λ g _ e. absurd (accepted≢refused_on _ g (sym e)))
    (λ b t s l q e. b)
    (λ b g s l r e. absurd (accepted≢refused_on _ g (sym e)))
    (λ b l x. absurd x)

-- a run that keeps a term is accepted
pub kept-accepted : (items : List ℕ) (fuel work core : ℕ) (t : Term Name) → (run items fuel work core).term ≡ some t → (run items fuel work core).outcome ≡ accepted
unfolding unbegun ended
kept-accepted items fuel work core t =
    run_holds (λ r. r.term ≡ some t → r.outcome ≡ accepted) items fuel work core (λ b. expand_recipe-spends _ fuel (tree_of items))
    (λ g _ e. kept-none e)
    (λ b u s l q e. refl)
    (λ b g s l r e. kept-none e)
    (λ b l x. absurd x)
  where
    kept-none : {A : Type 0} → none ≡ some t → A
    kept-none e = let z : ◌≡◌ {A = ℕ} 0 1 = cc in absurd (omega arith)
