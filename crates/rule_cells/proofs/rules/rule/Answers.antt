-- `rules::rule`: its shape, then its parts.
use Rattle.rule_cells.specs.RuleListLaws.{left-shape, parts-ask, left-parts}
use mathlib.Core.Path.{sym, ◌∙◌}
use Rattle.rule_cells.proofs.rules.rule.Goals as goal

pub rule_parts-requires : goal.rule_parts-requires
rule_parts-requires c =
    let a = c.args in parts-ask a.work.now a.form a.node a.next a.top c.requires.0 c.requires.1 c.requires.2 c.requires.3 _ _ _ _ (sym c.if-rule_shape.true ∙ c.rule_shape.ensures) c.first-pattern.ensures c.rest-p.ensures c.rest-after.ensures c.first-q.ensures

pub returns-then-rule_shape : goal.returns-then-rule_shape
returns-then-rule_shape c =
    let a = c.args in left-parts a.work.now a.form a.node a.next a.top c.requires.0 c.requires.1 c.requires.2 c.requires.3 _ _ _ _ (sym c.if-rule_shape.true ∙ c.rule_shape.ensures) c.first-pattern.ensures c.rest-p.ensures c.rest-after.ensures c.first-q.ensures c.rule_parts.new.work c.rule_parts.result c.rule_parts.ensures

pub returns : goal.returns
returns c =
    let a = c.args in left-shape a.work.now a.form a.node a.next a.top c.requires.0 c.requires.1 c.requires.2 c.requires.3 (sym c.if-rule_shape.false ∙ c.rule_shape.ensures)
