-- `rules_form::ellipsis`: the chosen name, or the default.
use mathlib.Core.Path.{sym, ◌∙◌}
use Rattle.rule_cells.specs.Forms.{ellipsis-chosen, ellipsis-default}
use Rattle.rule_cells.proofs.rules_form.ellipsis.Goals as goal

pub returns-then-word-eq-NAME : goal.returns-then-word-eq-NAME
returns-then-word-eq-NAME c =
    let a = c.args in ellipsis-chosen a.work.now a.node _ c.element-second.ensures (sym c.word.ensures ∙ c.if-word-eq-NAME.true)

pub returns : goal.returns
returns c =
    let a = c.args in ellipsis-default a.work.now a.node _ c.element-second.ensures (λ z. c.if-word-eq-NAME.false (c.word.ensures ∙ z))
