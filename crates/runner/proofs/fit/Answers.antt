-- Each test in its turn.
use mathlib.Core.Path.{sym, ◌∙◌}
use Rattle.runner.specs.ServiceLaws.{no-term, over-budget, short-table, fits}
use Rattle.runner.proofs.fit.Goals as goal

pub returns-then-not-is_term_unnamed : goal.returns-then-not-is_term_unnamed
returns-then-not-is_term_unnamed c = no-term _ _ _ (sym c.is_term_unnamed.ensures ∙ c.if-not-is_term_unnamed.true)

pub returns-then-budget-gt-BUDGET : goal.returns-then-budget-gt-BUDGET
returns-then-budget-gt-BUDGET c = over-budget _ _ _ (sym c.is_term_unnamed.ensures ∙ c.if-not-is_term_unnamed.false) c.if-budget-gt-BUDGET.true

pub returns-then-table-budget : goal.returns-then-table-budget
returns-then-table-budget c = short-table _ _ _ (sym c.is_term_unnamed.ensures ∙ c.if-not-is_term_unnamed.false) c.if-budget-gt-BUDGET.false c.if-table-budget.true

pub returns : goal.returns
returns c = fits _ _ _ (sym c.is_term_unnamed.ensures ∙ c.if-not-is_term_unnamed.false) c.if-budget-gt-BUDGET.false c.if-table-budget.false
