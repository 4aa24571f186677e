-- `rules_form::may_be_listed`: a name, not the ellipsis, not `_`.
use mathlib.Core.Path.{sym, ◌∙◌}
use Rattle.rule_cells.specs.Forms.{listed-no, listed-dots, listed_by}
use Rattle.rule_cells.proofs.rules_form.may_be_listed.Goals as goal

pub returns-then-word-ne-NAME : goal.returns-then-word-ne-NAME
returns-then-word-ne-NAME c =
    let a = c.args in listed-no a.work.now a.dots a.w a.node (λ z. c.if-word-ne-NAME.true (c.word.ensures ∙ z))

pub returns-then-is_ellipsis : goal.returns-then-is_ellipsis
returns-then-is_ellipsis c =
    let a = c.args in listed-dots a.work.now a.dots a.w a.node (sym c.word.ensures ∙ c.if-word-ne-NAME.false) (sym c.if-is_ellipsis.true ∙ c.is_ellipsis.ensures)

pub returns : goal.returns
returns c =
    let a = c.args in listed_by a.work.now a.dots a.w a.node (sym c.word.ensures ∙ c.if-word-ne-NAME.false) _ (sym c.if-is_ellipsis.false ∙ c.is_ellipsis.ensures) c.number_of.ensures
