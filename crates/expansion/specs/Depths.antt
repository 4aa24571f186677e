-- Request L2, 'Recipes accepted before have the same expansion', stated over the definition of a run. Nothing is proved here.
-- Before it, document 01: a variable under d > 0 pattern ellipses must be under exactly d in the template; under none, it may be anywhere.
use Rattle.std.specs.Prelude.{◌≡◌, Bool, true, ◌&&◌, ◌||◌, cond, List, [], ℕ, zero, suc, ◌+◌, eqb}
use Rattle.words.specs.Limits.{macros_most}
use Rattle.words.specs.Lists.{all_of}
use Rattle.recipe.specs.Name.{Name}
use Rattle.recipe.specs.Tree.{Tree, size, element}
use Rattle.recipe.specs.Table.{tree_of}
use Rattle.core_term.specs.Term.{Term}
use Rattle.expansion.specs.Rules.{Template, variable_t, insert_t, constant_t, empty_t, pair_t, ellipsis_t, Rule}
use Rattle.expansion.specs.Computation.{start, Out, starved, M, refuse}
use Rattle.expansion.specs.Forms.{expand_tree}
use Rattle.expansion.specs.Run.{accepted, ended, operation_numbers, run}
use Rattle.expansion.specs.RunLaws.{Begun}

-- each variable of this part of a template, which is under so many ellipses, is under exactly its own d, or has none
unfoldable pub exactly_in : (here : ℕ) → Template → Bool
exactly_in here (variable_t k d) = eqb d 0 || eqb d here
exactly_in here (insert_t x) = true
exactly_in here (constant_t a) = true
exactly_in here empty_t = true
exactly_in here (pair_t a b) = exactly_in here a && exactly_in here b
exactly_in here (ellipsis_t e r) = exactly_in (suc here) e && exactly_in here r

-- the rules of these macros are ones of document 01
unfoldable pub are_exact : List (List Rule) → Bool
are_exact = all_of (all_of (λ r. exactly_in 0 r.template))

-- expansion before: as now, but ground 15 where a form has read rules that are none of document 01, before its body is expanded
unfoldable pub expand_before : (limit : ℕ) → List ℕ → (fuel gas : ℕ) → Tree → M (Term Name)
expand_before limit operations fuel zero t = λ s. starved []
expand_before limit operations fuel (suc gas) t = λ s.
    cond (are_exact s.macros) (expand_tree limit operations fuel (expand_before limit operations fuel gas)) (λ u. refuse 15) t s

-- of a recipe's expression, from the start
unfoldable pub expand_recipe_before : ℕ → Tree → Out (Term Name)
expand_recipe_before fuel t = expand_before macros_most (operation_numbers t) fuel (size t + fuel) (element 1 t) start

-- a recipe that passes grounds 7 to 10, which have not moved, and was accepted before has the same expansion: outcome, counts, term, and
-- what the run shows
unfoldable pub RecipesBefore : Type 0
RecipesBefore =
    (items : List ℕ) (fuel work core : ℕ)
    → Begun items fuel work core
    → (ended (expand_recipe_before fuel (tree_of items))).outcome ≡ accepted
    → run items fuel work core ≡ ended (expand_recipe_before fuel (tree_of items))
