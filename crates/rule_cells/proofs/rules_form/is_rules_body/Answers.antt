-- `rules_form::is_rules_body`: literals, then 1 to 16 rules.
use mathlib.Core.Path.{sym, ◌∙◌}
use Rattle.rule_cells.specs.Forms.{body-literals, body-none, body-some}
use Rattle.rule_cells.proofs.rules_form.is_rules_body.Goals as goal

pub returns-then-n-eq0 : goal.returns-then-n-eq0
returns-then-n-eq0 c =
    let a = c.args in body-none a.work.now a.node a.w _ _ _ c.ellipsis-dots.ensures c.after_chosen-after.ensures c.first-literals.ensures (sym c.if-literals_good.true ∙ c.literals_good.ensures) _ _ c.rest-list.ensures c.count-n.ensures c.if-n-eq0.true

pub returns-then-literals_good : goal.returns-then-literals_good
returns-then-literals_good c =
    let a = c.args in body-some a.work.now a.node a.w _ _ _ c.ellipsis-dots.ensures c.after_chosen-after.ensures c.first-literals.ensures (sym c.if-literals_good.true ∙ c.literals_good.ensures) _ _ c.rest-list.ensures c.count-n.ensures c.if-n-eq0.false

pub returns : goal.returns
returns c =
    let a = c.args in body-literals a.work.now a.node a.w _ _ _ c.ellipsis-dots.ensures c.after_chosen-after.ensures c.first-literals.ensures (sym c.if-literals_good.false ∙ c.literals_good.ensures)
