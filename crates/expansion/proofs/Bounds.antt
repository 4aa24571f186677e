-- The bounds of a run: its steps are at most its sum, its sum is at most the fuel, and its core words are at most 3 × (N + fuel),
-- so that they fit a lent table.
pub mod BudgetLaws
pub mod Gas
use Rattle.std.specs.Prelude.{List, ℕ, ◌+◌, ◌*◌, ◌≤◌}
use Rattle.std.proofs.Common.{arith}
use Rattle.std.proofs.Math.ListN.{length}
use Rattle.words.specs.Limits.{core_rate}
use Rattle.recipe.specs.Tree.{size, element}
use Rattle.recipe.specs.TreeLaws.{element-size}
use Rattle.recipe.specs.Table.{item_count, tree_of}
use Rattle.recipe.proofs.TableWeightLaws.{tree_of-size}
use Rattle.expansion.specs.Computation.{State, start}
use Rattle.expansion.specs.Run.{core_of, ended, unbegun, run}
use Rattle.expansion.specs.RunLaws.{Begun}
use Rattle.expansion.proofs.RunLaws.{run_holds}
use Rattle.expansion.specs.Bounds.Budget.{Spent}
use Rattle.expansion.proofs.Bounds.Gas.{expand_recipe-spends}

-- of every run, accepted or not
pub run-sum : (items : List ℕ) (fuel work core : ℕ) → (run items fuel work core).sum ≤ fuel
unfolding unbegun ended
run-sum items fuel work core =
    run_holds (λ r. r.sum ≤ fuel) items fuel work core (λ b. expand_recipe-spends _ fuel (tree_of items))
    (λ g _. omega arith)
    (λ b t s l q. q.solvent.bounded)
    (λ b g s l r. r.bounded)
    (λ b l x. absurd x)

-- every step costs an item at least
pub run-steps : (items : List ℕ) (fuel work core : ℕ) → (run items fuel work core).steps ≤ (run items fuel work core).sum
unfolding unbegun ended
run-steps items fuel work core =
    run_holds (λ r. r.steps ≤ r.sum) items fuel work core (λ b. expand_recipe-spends _ fuel (tree_of items))
    (λ g _. omega arith)
    (λ b t s l q. q.solvent.paid)
    (λ b g s l r. r.paid)
    (λ b l x. absurd x)

module _ (items : List ℕ) (fuel work core : ℕ) where
  words-bound : Begun items fuel work core → {n : ℕ} {s : State} → Spent fuel (size (element 1 (tree_of items))) start n s → n ≤ core_rate * (item_count items + fuel)
  unfolding start
  words-bound b q = omega (arith, q.words, q.solvent, element-size 1 (tree_of items), tree_of-size items b.layout)

  pub run-core : length (core_of (run items fuel work core)) ≤ core_rate * (item_count items + fuel)
  unfolding unbegun ended
  run-core =
      run_holds (λ r. length (core_of r) ≤ core_rate * (item_count items + fuel)) items fuel work core (λ b. expand_recipe-spends _ fuel (tree_of items))
      (λ g _. omega arith)
      (λ b t s l q. words-bound b q)
      (λ b g s l r. omega arith)
      (λ b l x. absurd x)

  -- ground 9 leaves room for them
  pub run-core-fits : length (core_of (run items fuel work core)) ≤ core
  unfolding unbegun ended
  run-core-fits =
      run_holds (λ r. length (core_of r) ≤ core) items fuel work core (λ b. expand_recipe-spends _ fuel (tree_of items))
      (λ g _. omega arith)
      (λ b t s l q. omega (arith, words-bound b q, b.core-room))
      (λ b g s l r. omega arith)
      (λ b l x. absurd x)
