-- `binders::is_among`: a name is among those of the list where it is among those of the node.
use Rattle.std.proofs.Common.{◌≡◌}
use Rattle.words.specs.Lists.{any_of}
use Rattle.recipe.specs.Name.{same}
use Rattle.arena.specs.Arena.{name_at, tree_at}
use Rattle.forms.specs.Binders.{AllNames, names_in}
use Rattle.forms.proofs.binders.is_among.Given as goal

abbrev pub invariant-loop-bound : goal.invariant-loop-bound
invariant-loop-bound l =
    (AllNames l.bound (tree_at l.work l.at l.wrap))
    × (any_of (same (name_at l.work l.node l.wrap)) (names_in l.bound (tree_at l.work l.list l.wrap)) ≡ any_of (same (name_at l.work l.node l.wrap)) (names_in l.bound (tree_at l.work l.at l.wrap)))

abbrev pub decreases-loop-bound : goal.decreases-loop-bound
decreases-loop-bound l = l.at
