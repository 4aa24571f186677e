-- Request L9 proved: a run on one fuel beside the run on more.
use Rattle.std.specs.Prelude.{◌≡◌, refl, Bool, true, false, List, ℕ, ◌+◌, ◌≤◌, ◌<◌, leb}
use Rattle.std.proofs.Math.Path.{ap}
use Rattle.std.proofs.Common.{◌∙◌, arith, leb-true, leb-false, le-leb}
use Rattle.std.proofs.lemmas.Bool.{false≢true}
use Rattle.words.specs.Limits.{macros_most}
use Rattle.words.specs.TestLaws.{and_both}
use Rattle.words.specs.Tables.{begun}
use Rattle.recipe.specs.Name.{Name}
use Rattle.recipe.specs.Tree.{Tree, size, element}
use Rattle.recipe.specs.Table.{is_layout, tree_of}
use Rattle.core_term.specs.Term.{Term}
use Rattle.expansion.specs.Computation.{State, start, Out}
use Rattle.expansion.specs.Run.{refused_on, Run, ended, require, operation_numbers, are_operations, expand_recipe, run}
use Rattle.expansion.specs.Outcomes.{is_done, is_refused, is_starved}
use Rattle.expansion.proofs.RunLaws.{require-passes}
use Rattle.expansion.proofs.Bounds.{run-sum}
use Rattle.expansion.specs.Bounds.Budget.{SpendsTerm}
use Rattle.expansion.proofs.Bounds.Gas.{expand_recipe-spends}
use Rattle.expansion.specs.MoreFuel.{Try, tried, Enough, MoreFuel, Least, LeastFuel}
use Rattle.expansion.specs.MoreFuel.Tries.{Beside, alike, short, quits, starves}
use Rattle.expansion.proofs.MoreFuel.Alike.{expand-tries}

-- the run on a fuel, and the run on more: the same, or 18 and a sum past the fuel
data Runs (fuel : ℕ) : Run → Run → Type 0 where
  same : {r : Run} → Runs fuel r r
  differ : {r r' : Run} → r.outcome ≡ refused_on begun 18 → fuel < r'.sum → Runs fuel r r'

require-runs : (fuel g : ℕ) (b : Bool) {r r' : Run} → Runs fuel r r' → Runs fuel (require g b r) (require g b r')
unfolding require
require-runs fuel g true h = h
require-runs fuel g false h = same

-- neither is out of gas
ended-runs : (fuel more k : ℕ) (s : State) {x y : Out (Term Name)} → Beside (λ g. false) fuel x y → SpendsTerm fuel k s x → SpendsTerm more k s y → Runs fuel (ended x) (ended y)
unfolding ended
ended-runs fuel more k s alike p q = same
ended-runs fuel more k s (short (is_done h)) p q = differ refl h
ended-runs fuel more k s (short (is_refused h)) p q = differ refl h
ended-runs fuel more k s (short (is_starved h)) p (is_starved q) = absurd q
ended-runs fuel more k s (quits e) p q = absurd (false≢true e)
ended-runs fuel more k s starves (is_starved p) q = absurd p

recipe-runs : (limit fuel more : ℕ) → fuel ≤ more → (t : Tree) → Runs fuel (ended (expand_recipe limit fuel t)) (ended (expand_recipe limit more t))
unfolding expand_recipe
recipe-runs limit fuel more h t =
    let r = expand-tries (λ g. false) limit macros_most (operation_numbers t) fuel more (size t + fuel) (size t + more) h (omega arith) (element 1 t) start in
    ended-runs fuel more _ start r.beside (expand_recipe-spends limit fuel t) (expand_recipe-spends limit more t)

-- tried again with more
more-least : (fuel more : ℕ) {r r' : Run} → Runs fuel r r' → fuel ≤ more → r.sum ≤ fuel → Enough r → Least r more r'
unfolding Enough
more-least fuel more same h b e = record { from-sum = λ _. refl; below-sum = λ l. absurd (omega arith) }
more-least fuel more (differ x y) h b e = absurd (e x)

-- tried again with less
less-least : (fuel : ℕ) {r r' : Run} → Runs fuel r' r → r'.sum ≤ fuel → Least r fuel r'
less-least fuel same b = record { from-sum = λ _. refl; below-sum = λ l. absurd (omega arith) }
less-least fuel (differ x y) b = record { from-sum = λ l. absurd (omega arith); below-sum = λ _. x }

module _ (items : List ℕ) where
  -- a try passes grounds 8 and 9, and nothing else asks for its lengths
  tried-is : (t : Try items) → tried items t ≡ require 7 (is_layout items) (require 10 (are_operations (tree_of items)) (ended (expand_recipe macros_most t.fuel (tree_of items))))
  unfolding tried run
  tried-is t =
      ap (require 7 (is_layout items))
      (require-passes 8 _ _ (le-leb _ _ t.most)
      ∙ require-passes 9 _ _ (and_both _ _ (le-leb _ _ t.work-room) (le-leb _ _ t.core-room)))

  tried-runs : (once again : Try items) → once.fuel ≤ again.fuel → Runs once.fuel (tried items once) (tried items again)
  tried-runs once again h =
      rw (tried-is once, tried-is again) (require-runs _ 7 _ (require-runs _ 10 _ (recipe-runs _ once.fuel again.fuel h (tree_of items))))

  tried-sum : (t : Try items) → (tried items t).sum ≤ t.fuel
  unfolding tried
  tried-sum t = run-sum items t.fuel t.work t.core

pub least-fuel : LeastFuel
unfolding LeastFuel
least-fuel items once again enough = by (leb once.fuel again.fuel) (leb-true _ _) (leb-false _ _)
  where
    by : (b : Bool) → (b ≡ true → once.fuel ≤ again.fuel) → (b ≡ false → again.fuel < once.fuel) → Least (tried items once) again.fuel (tried items again)
    by true x y = more-least once.fuel again.fuel (tried-runs items once again (x refl)) (x refl) (tried-sum items once) enough
    by false x y = less-least again.fuel (tried-runs items again once (omega (arith, y refl))) (tried-sum items again)

pub more-fuel : MoreFuel
unfolding MoreFuel LeastFuel
more-fuel items once again h enough = (least-fuel items once again enough).from-sum (omega (arith, tried-sum items once))
