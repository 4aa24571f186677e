-- `rules_form::is_rules_form`: the head, the chosen name, the rest.
use mathlib.Core.Path.{sym, ◌∙◌}
use Rattle.rule_cells.specs.Forms.{form-no, form-unchosen, form-body}
use Rattle.rule_cells.proofs.rules_form.is_rules_form.Goals as goal

pub returns-then-chosen_good : goal.returns-then-chosen_good
returns-then-chosen_good c =
    let a = c.args in form-body a.work.now a.node a.w _ c.first-first.ensures (sym c.if-is_syntax_rules.true ∙ c.is_syntax_rules.ensures) _ c.element-second.ensures _ (λ w. sym c.if-chosen_good.true ∙ c.chosen_good.ensures w) c.is_rules_body.ensures

pub returns-then-is_syntax_rules : goal.returns-then-is_syntax_rules
returns-then-is_syntax_rules c =
    let a = c.args in form-unchosen a.work.now a.node a.w _ c.first-first.ensures (sym c.if-is_syntax_rules.true ∙ c.is_syntax_rules.ensures) _ c.element-second.ensures (λ w. sym c.if-chosen_good.false ∙ c.chosen_good.ensures w)

pub returns : goal.returns
returns c =
    let a = c.args in form-no a.work.now a.node a.w _ c.first-first.ensures (sym c.if-is_syntax_rules.false ∙ c.is_syntax_rules.ensures)
