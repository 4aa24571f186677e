-- `macros::all_macros`: what reading the node's rules leaves is what reading the whole list leaves.
use borrow.Author.Rules.{rules}
use native.Mathlib.Omega.{arith}
use mathlib.Core.Path.{◌≡◌, refl, sym, ◌∙◌}
use lib.ListN.{length}
use Rattle.arena.specs.ListLaws.{pair-falls}
use Rattle.turns.specs.MacroRules.{Reading}
use Rattle.turns.specs.MacroRuleLaws.{one-ask, count_small, reading_begins, reading-ends, reading-bad, reading-more}
use Rattle.turns.proofs.macros.all_macros.Given as goal

abbrev pub invariant-loop-work : goal.invariant-loop-work
invariant-loop-work l = (length l.work ≡ length l.fn.work) × (length l.macros ≡ length l.fn.macros) × Reading l.fn.work l.fn.macros l.list l.wrap l.count l.top l.work l.macros l.at l.n l.end

abbrev pub decreases-loop-work : goal.decreases-loop-work
decreases-loop-work l = l.at
