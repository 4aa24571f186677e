-- The branch that the value picks.
use mathlib.Core.Path.{sym, ◌∙◌}
use Rattle.runner.specs.ComeLaws.{testing-yes, testing-no}
use Rattle.runner.proofs.come.branch.Goals as goal

pub returns-then-holds : goal.returns-then-holds
returns-then-holds c = λ budget whole x. testing-yes c.args.s c.args.f x
    (sym c.if-holds.true ∙ c.holds.ensures c.args.words.now c.args.table.now c.args.s.cells x.value (rw c.value_at.ensures x.is.is))

pub returns : goal.returns
returns c = λ budget whole x. testing-no c.args.s c.args.f x
    (sym c.if-holds.false ∙ c.holds.ensures c.args.words.now c.args.table.now c.args.s.cells x.value (rw c.value_at.ensures x.is.is))
    _ (c.after.ensures x.yes x.here)
