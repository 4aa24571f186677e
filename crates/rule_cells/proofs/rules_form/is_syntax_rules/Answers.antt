-- `rules_form::is_syntax_rules`: the number, and no binding.
use Rattle.rule_cells.specs.Forms.{head-no, head-other, head-yes}
use mathlib.Core.Path.{sym, ◌∙◌}
use Rattle.rule_cells.proofs.rules_form.is_syntax_rules.Goals as goal

pub returns-then-word-ne-NAME : goal.returns-then-word-ne-NAME
returns-then-word-ne-NAME c =
    let a = c.args in head-no a.work.now a.node a.w (λ z. c.if-word-ne-NAME.true (c.word.ensures ∙ z))

pub returns-then-number_of-ne-SYNTAX_RULES : goal.returns-then-number_of-ne-SYNTAX_RULES
returns-then-number_of-ne-SYNTAX_RULES c =
    let a = c.args in head-other a.work.now a.node a.w _ (sym c.word.ensures ∙ c.if-word-ne-NAME.false) c.number_of.ensures c.if-number_of-ne-SYNTAX_RULES.true

pub returns : goal.returns
returns c =
    let a = c.args in head-yes a.work.now a.node a.w _ (sym c.word.ensures ∙ c.if-word-ne-NAME.false) c.number_of.ensures _ c.if-number_of-ne-SYNTAX_RULES.false c.binding_of.ensures
