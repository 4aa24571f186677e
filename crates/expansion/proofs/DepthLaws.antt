-- Request L2, 'Recipes accepted before have the same expansion', proved: expansion before beside expansion now, by the induction over forms
-- that tries with more fuel go by, with the same fuel for both and ground 15 let be.
use Rattle.std.specs.Prelude.{◌≡◌, List, eqb}
use Rattle.std.proofs.Math.Path.{refl}
use Rattle.std.proofs.Common.{sym, ◌∙◌, arith}
use Prim.Native.Nat.{ℕ, zero, suc, ◌+◌}
use Rattle.words.specs.Limits.{macros_most}
use Rattle.words.specs.ListLaws.{either}
use Rattle.recipe.specs.Name.{Name}
use Rattle.recipe.specs.Tree.{Tree, size, element}
use Rattle.recipe.specs.Table.{tree_of}
use Rattle.core_term.specs.Term.{Term}
use Rattle.expansion.specs.Computation.{State, start, Out, refuse}
use Rattle.expansion.specs.Forms.{expand_tree, expand_within}
use Rattle.expansion.specs.Run.{accepted, ended, operation_numbers, expand_recipe}
use Rattle.expansion.proofs.RunLaws.{accepted≢refused_on, accepted≢unfinished, begun-run}
use Rattle.expansion.specs.Outcomes.{is_starved}
use Rattle.expansion.proofs.OutcomesLaws.{weaken}
use Rattle.expansion.proofs.WaysLaws.{expand-keeps}
use Rattle.expansion.specs.MoreFuel.Tries.{Beside, alike, short, quits, starves, Tries}
use Rattle.expansion.proofs.MoreFuel.Alike.{tree-tries}
use Rattle.expansion.specs.Depths.{are_exact, expand_before, expand_recipe_before, RecipesBefore}

module _ (limit : ℕ) (operations : List ℕ) (fuel : ℕ) where
  before-now : (gas : ℕ) (t : Tree) (s : State) → Tries (eqb 15) fuel s (expand_before limit operations fuel gas t s) (expand_within limit limit operations fuel gas t s)
  unfolding expand_before expand_within refuse
  before-now zero t s = record { grown = is_starved tt; beside = alike }
  before-now (suc gas) t s =
      either (are_exact s.macros) (λ e. rw e (tree-tries (eqb 15) limit operations fuel fuel (omega arith) _ _ (before-now gas) t s))
      (λ e. rw e (record { grown = weaken (expand-keeps limit limit operations fuel (suc gas) t s) (λ x. x) (λ g u l q. q.way.sum) (λ a u l q. q.sum); beside = quits refl }))

same_end : (fuel : ℕ) {x y : Out (Term Name)} → Beside (eqb 15) fuel x y → (ended x).outcome ≡ accepted → ended y ≡ ended x
unfolding ended
same_end fuel alike e = refl
same_end fuel (short h) e = absurd (accepted≢refused_on _ 18 (sym e))
same_end fuel (quits {g = g} h) e = absurd (accepted≢refused_on _ g (sym e))
same_end fuel starves e = absurd (accepted≢unfinished (sym e))

pub recipes-before : RecipesBefore
unfolding RecipesBefore expand_recipe_before expand_recipe
recipes-before items fuel work core begun accepted-before =
    let t = tree_of items in
    begun-run items fuel work core begun
    ∙ same_end fuel (before-now macros_most (operation_numbers t) fuel (size t + fuel) (element 1 t) start).beside accepted-before
