-- `binders::are_distinct`: no two names of the list are the same where no two of the node's are.
use Rattle.std.proofs.Common.{◌≡◌}
use Rattle.recipe.specs.Name.{distinct}
use Rattle.arena.specs.Arena.{tree_at}
use Rattle.forms.specs.Binders.{AllNames, names_in}
use Rattle.forms.proofs.binders.are_distinct.Given as goal

abbrev pub invariant-loop-bound : goal.invariant-loop-bound
invariant-loop-bound l =
    (AllNames l.bound (tree_at l.work l.at l.wrap))
    × (distinct (names_in l.bound (tree_at l.work l.list l.wrap)) ≡ distinct (names_in l.bound (tree_at l.work l.at l.wrap)))

abbrev pub decreases-loop-bound : goal.decreases-loop-bound
decreases-loop-bound l = l.at
