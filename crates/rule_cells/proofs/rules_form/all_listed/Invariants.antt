-- `rules_form::all_listed`: what is so of the node is so of the list.
use Rattle.std.proofs.Common.{◌≡◌, Bool}
use Rattle.arena.specs.Arena.{tree_at}
use Rattle.rule_cells.specs.Dots.{dots_at}
use Rattle.rule_cells.specs.Forms.{literals_all}
use Rattle.rule_cells.proofs.rules_form.all_listed.Given as goal

abbrev pub invariant-loop-dots : goal.invariant-loop-dots
invariant-loop-dots l =
    (r : Bool) → r ≡ literals_all (dots_at l.work l.dots l.w) (tree_at l.work l.at l.w) → r ≡ literals_all (dots_at l.work l.dots l.w) (tree_at l.work l.node l.w)

abbrev pub decreases-loop-dots : goal.decreases-loop-dots
decreases-loop-dots l = l.at
