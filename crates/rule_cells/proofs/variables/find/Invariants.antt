-- `variables::find`: what the variables that are left say of the name is what all of them say.
use Rattle.std.proofs.Common.{◌≡◌}
use Rattle.expansion.specs.Rules.{variable_from}
use Rattle.arena.specs.Arena.{name_at}
use Rattle.rule_cells.specs.Variables.{variables_from, known_from}
use Rattle.rule_cells.proofs.variables.find.Given as goal

abbrev pub invariant-loop-k : goal.invariant-loop-k
invariant-loop-k l =
    known_from l.work l.w l.vars (name_at l.work l.node l.w) l.count l.k ≡ variable_from 0 (variables_from l.work l.w l.vars 0 l.count) (name_at l.work l.node l.w)
