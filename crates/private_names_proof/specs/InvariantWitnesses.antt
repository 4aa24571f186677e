-- Tests of what a run has at hand, computed on recipes: the invariants' tests pass, and tests that say more fail.
use Rattle.std.specs.Prelude.{◌≡◌, Bool, not, ◌||◌, [], ◌∷◌, ℕ, eqb}
use Prim.Native.String.{String}
use Rattle.words.specs.Lists.{all_of}
use Rattle.recipe.specs.Name.{binding_key}
use Rattle.recipe.specs.Tree.{Tree, names}
use Rattle.recipe.specs.Table.{tree_of}
use Rattle.expansion.specs.Computation.{State}
use Rattle.expansion.specs.Run.{Outcome, ended}
use Rattle.expansion.specs.Computed.{computed}
use Rattle.private_names.specs.Statement.{is_copy}
use Rattle.private_names.specs.Witnesses.{items_of}
use Rattle.private_names_proof.specs.Invariants.Watch.{watched}
use Rattle.private_names_proof.specs.Invariants.Tests.{are_fresh, have_one_binding, are_apart}
use Rattle.private_names_proof.specs.Invariants.{watched_recipe}

-- what comes of the recipe with that test: its outcome, where ground 0 is a failed test, and the steps made
unfoldable pub tried : (Tree → State → Bool) → String → Outcome × ℕ
unfolding computed items_of watched watched_recipe are_fresh have_one_binding are_apart is_copy
tried test text = let r = ended (watched_recipe test 512 (tree_of (items_of text))) in (r.outcome, r.steps)

-- the number alone does not determine the binding; nor are copies apart where the form is a result's
unfoldable pub by_number : Tree → State → Bool
by_number t s = all_of (λ x. all_of (λ y. not (eqb x.number y.number) || eqb (binding_key x.binding) (binding_key y.binding)) (names t)) (names t)
