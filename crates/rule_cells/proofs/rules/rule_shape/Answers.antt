-- `rules::rule_shape`: a list of two, and a name other than the ellipsis.
use mathlib.Core.Path.{sym, ◌∙◌}
use Rattle.rule_cells.specs.RuleListLaws.{shape-no, shape-other, shape-by}
use Rattle.rule_cells.proofs.rules.rule_shape.Goals as goal

pub returns-then-word-ne-NAME : goal.returns-then-word-ne-NAME
returns-then-word-ne-NAME c =
    let a = c.args in shape-other a.work.now a.dots a.node a.w _ _ (sym c.if-is_list_of.true ∙ c.is_list_of.ensures a.w) c.first-pattern.ensures c.first-first.ensures (λ z. c.if-word-ne-NAME.true (c.word.ensures ∙ z))

pub returns-then-is_list_of : goal.returns-then-is_list_of
returns-then-is_list_of c =
    let a = c.args in shape-by a.work.now a.dots a.node a.w _ _ (sym c.if-is_list_of.true ∙ c.is_list_of.ensures a.w) c.first-pattern.ensures c.first-first.ensures _ (sym c.word.ensures ∙ c.if-word-ne-NAME.false) c.is_ellipsis.ensures

pub returns : goal.returns
returns c =
    let a = c.args in shape-no a.work.now a.dots a.node a.w (sym c.if-is_list_of.false ∙ c.is_list_of.ensures a.w)
