-- The invariants of a run that demand 3 rests on, each a theorem about the definition. What a run has at hand is each expression that it
-- comes to, in the state at that place: the definition with a test before each expression (`watched`) is the definition.
-- Read Tests and the head of Watch first. Kinds has what is kept, Kept the induction; AtForm, Places and Reached have the form of a private
-- name and the run up to it.
pub mod Tests
pub mod Watch
pub mod Kinds
pub mod Kept
pub mod AtForm
use Rattle.std.specs.Prelude.{◌≡◌, Bool, true, List, ℕ, ◌+◌}
use Rattle.words.specs.Limits.{macros_most}
use Rattle.words.specs.Lists.{any_of}
use Rattle.recipe.specs.Name.{Name}
use Rattle.recipe.specs.Tree.{Tree, size, element}
use Rattle.recipe.specs.Table.{tree_of}
use Rattle.core_term.specs.Term.{Term}
use Rattle.expansion.specs.Computation.{State, start, Out}
use Rattle.expansion.specs.Run.{operation_numbers, expand_recipe, run}
use Rattle.private_names.specs.Statement.{Choice, is_old_item, is_reached_at}
use Rattle.private_names_proof.specs.Invariants.Tests.{are_apart}
use Rattle.private_names_proof.specs.Invariants.Watch.{watched}

-- the expansion of a recipe, `expand_recipe`, with a test before each expression
unfoldable pub watched_recipe : (test : Tree → State → Bool) (fuel : ℕ) → Tree → Out (Term Name)
watched_recipe test fuel t = watched test macros_most macros_most (operation_numbers t) fuel (size t + fuel) (element 1 t) start

-- A copy and a name that is no copy are never the same: in each expression that a run comes to, where it comes to the form of that
-- template other than through a macro's result.
abbrev pub CopiesStayApart : Type 0
CopiesStayApart =
    (ws : List ℕ) (fuel work core : ℕ) (c : Choice) → any_of (is_reached_at c.form) (run ws fuel work core).events ≡ true
    → watched_recipe (are_apart (is_old_item (tree_of ws) c)) fuel (tree_of ws) ≡ expand_recipe macros_most fuel (tree_of ws)
