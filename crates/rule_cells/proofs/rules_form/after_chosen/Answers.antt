-- `rules_form::after_chosen`: past a name, where there is one.
use mathlib.Core.Path.{sym, ◌∙◌}
use Rattle.rule_cells.specs.Forms.{after-chosen, after-plain}
use Rattle.rule_cells.proofs.rules_form.after_chosen.Goals as goal

pub returns-then-word-eq-NAME : goal.returns-then-word-eq-NAME
returns-then-word-eq-NAME c =
    let a = c.args in after-chosen a.work.now a.node _ _ c.rest-rest.ensures c.first-second.ensures _ (sym c.word.ensures ∙ c.if-word-eq-NAME.true) c.rest.ensures

pub returns : goal.returns
returns c =
    let a = c.args in after-plain a.work.now a.node _ _ c.rest-rest.ensures c.first-second.ensures (λ z. c.if-word-eq-NAME.false (c.word.ensures ∙ z))
