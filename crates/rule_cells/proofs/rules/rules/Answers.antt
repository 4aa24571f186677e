-- `rules::rules`: the form's shape, then its rules.
use Rattle.rule_cells.specs.RuleListLaws.{dots-under, left-no-form, asks-list, literals-under, left-form}
use mathlib.Core.Path.{sym, ◌∙◌}
use Rattle.rule_cells.proofs.rules.rules.Goals as goal

pub rule_list-requires : goal.rule_list-requires
rule_list-requires c =
    let a = c.args in
    let dots = c.ellipsis-dots.ensures in
    let after = c.after_chosen-after.ensures in
    let literals = c.first.ensures in
    let list = c.rest-list.ensures in
    (asks-list a.work.now a.node a.w a.top c.requires dots after literals list, dots-under a.work.now a.node a.w a.top c.requires dots after literals list, literals-under a.work.now a.node a.w a.top c.requires dots after literals list)

pub returns-then-is_rules_form : goal.returns-then-is_rules_form
returns-then-is_rules_form c =
    let a = c.args in
    let dots = c.ellipsis-dots.ensures in
    let after = c.after_chosen-after.ensures in
    let literals = c.first.ensures in
    let list = c.rest-list.ensures in
    left-form a.work.now a.node a.w a.top c.requires dots after literals list c.rule_list.new.work c.rule_list.result (sym c.if-is_rules_form.true ∙ c.is_rules_form.ensures) c.rule_list.ensures

pub returns : goal.returns
returns c =
    let a = c.args in left-no-form a.work.now a.node a.w a.top c.requires (sym c.if-is_rules_form.false ∙ c.is_rules_form.ensures)
