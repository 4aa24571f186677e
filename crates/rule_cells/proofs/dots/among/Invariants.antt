-- `dots::among`: what is so of the node is so of the list.
use Rattle.std.proofs.Common.{◌≡◌, Bool}
use Rattle.arena.specs.Arena.{tree_at}
use Rattle.rule_cells.specs.Dots.{dots_among}
use Rattle.rule_cells.proofs.dots.among.Given as goal

abbrev pub invariant-loop-dots : goal.invariant-loop-dots
invariant-loop-dots l =
    (b : Bool) → b ≡ dots_among l.work l.dots l.w (tree_at l.work l.node l.w) → b ≡ dots_among l.work l.dots l.w (tree_at l.work l.list l.w)

abbrev pub decreases-loop-dots : goal.decreases-loop-dots
decreases-loop-dots l = l.node
