-- The measure is the node; the loop goes along its list.
use Rattle.rule_cells.specs.Variables.{Gathering}
use Rattle.rule_cells.specs.Scopes.{dots_of, literals_of}
use Rattle.rule_cells.proofs.variables.+gather.Given as goal

abbrev pub decreases-gather : goal.decreases-gather
decreases-gather l = l.node

abbrev pub invariant-loop-head : goal.invariant-loop-head
invariant-loop-head l =
    Gathering (dots_of l.work l.form) (literals_of l.work l.form) l.d l.work l.form.wrap l.node l.n l.initial.vars l.at l.m l.vars

abbrev pub decreases-loop-head : goal.decreases-loop-head
decreases-loop-head l = l.at
