-- Tests of an expression that a run has at hand, in the state at that place.
use Rattle.std.specs.Prelude.{Bool, not, ◌&&◌, ◌||◌, ℕ, eqb, leb}
use Rattle.words.specs.Lists.{all_of, equal}
use Rattle.recipe.specs.Name.{binding_key, same}
use Rattle.recipe.specs.Tree.{Tree, names}
use Rattle.expansion.specs.Computation.{State}
use Rattle.private_names.specs.Statement.{is_copy}

-- every mark is that of a step made
unfoldable pub are_fresh : Tree → State → Bool
are_fresh t s = all_of (λ x. all_of (λ m. leb m s.steps) x.marks) (names t)

-- names of one number with the same marks have one binding
unfoldable pub have_one_binding : Tree → State → Bool
have_one_binding t s =
    all_of (λ x. all_of (λ y. not (eqb x.number y.number && equal x.marks y.marks) || eqb (binding_key x.binding) (binding_key y.binding)) (names t)) (names t)

-- a copy and a name that is no copy are not the same
unfoldable pub are_apart : (private : ℕ → Bool) → Tree → State → Bool
are_apart private t s = all_of (λ x. all_of (λ y. not (is_copy private x && (not (is_copy private y) && same x y))) (names t)) (names t)
