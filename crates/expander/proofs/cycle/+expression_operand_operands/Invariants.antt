-- The loops' invariants are Going and Walking of specs/Cycle.antt; the measure is three times the items at hand and the fuel left, one
-- more for an expression and two more for an operand.
use Prim.Native.Nat.{ℕ, ◌+◌, ◌*◌}
use mathlib.Core.List.{List}
use Rattle.arena.specs.Arena.{tree_at}
use Rattle.turns.specs.Memory.{tables}
use Rattle.turns.specs.Turns.{Lent}
use Rattle.expander.specs.Cycle.{left_of, Going, Walking}
use Rattle.expander.proofs.cycle.+expression_operand_operands.Given as goal

abbrev pub decreases-expression : goal.decreases-expression
decreases-expression l = 3 * left_of l.fuel l.work.now l.start l.outer l.from + 1

abbrev pub decreases-operand : goal.decreases-operand
decreases-operand l = 3 * left_of l.fuel l.work.now l.node l.wrap l.from + 2

abbrev pub decreases-operands : goal.decreases-operands
decreases-operands l = 3 * left_of l.fuel l.work.now l.first l.wrap l.from

abbrev pub invariant-expression-loop-n : goal.invariant-expression-loop-n
invariant-expression-loop-n l =
    (o : List ℕ) → Lent o l.operations → Going o l.fuel (tree_at l.fn.work l.start l.outer) l.initial.reached (tables l.fn.work l.fn.core l.fn.known) l.node l.wrap l.reached (tables l.work l.core l.known)

abbrev pub decreases-expression-loop-n : goal.decreases-expression-loop-n
decreases-expression-loop-n l = left_of l.fuel l.work l.node l.wrap l.reached

abbrev pub invariant-operands-loop-work : goal.invariant-operands-loop-work
invariant-operands-loop-work l =
    (o : List ℕ) → Lent o l.operations → Walking o l.fuel (tree_at l.fn.work l.first l.wrap) l.initial.reached (tables l.fn.work l.fn.core l.fn.known) l.list l.wrap l.reached (tables l.work l.core l.known)

abbrev pub decreases-operands-loop-work : goal.decreases-operands-loop-work
decreases-operands-loop-work l = l.list
