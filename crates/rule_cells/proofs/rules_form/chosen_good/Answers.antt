-- `rules_form::chosen_good`: no name, or an ordinary one.
use mathlib.Core.Path.{sym, ◌∙◌}
use Rattle.rule_cells.specs.Forms.{chosen-other, chosen-name}
use Rattle.rule_cells.proofs.rules_form.chosen_good.Goals as goal

pub returns-then-word-ne-NAME : goal.returns-then-word-ne-NAME
returns-then-word-ne-NAME c =
    let a = c.args in chosen-other a.work.now a.second (λ z. c.if-word-ne-NAME.true (c.word.ensures ∙ z))

pub returns : goal.returns
returns c =
    let a = c.args in chosen-name a.work.now a.second _ (sym c.word.ensures ∙ c.if-word-ne-NAME.false) c.is_ordinary.ensures
