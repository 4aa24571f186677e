-- `rules_form::literals_good`: a list of at most 8 literals.
use mathlib.Core.Path.{sym, ◌∙◌}
use Rattle.rule_cells.specs.Forms.{literals-no, literals-other, literals-most}
use Rattle.rule_cells.proofs.rules_form.literals_good.Goals as goal

pub returns-then-all_listed : goal.returns-then-all_listed
returns-then-all_listed c =
    let a = c.args in literals-most a.work.now a.dots a.w a.node (sym c.if-is_list.true ∙ c.is_list.ensures a.w) _ (sym c.if-all_listed.true ∙ c.all_listed.ensures) c.count.ensures

pub returns-then-is_list : goal.returns-then-is_list
returns-then-is_list c =
    let a = c.args in literals-other a.work.now a.dots a.w a.node (sym c.if-is_list.true ∙ c.is_list.ensures a.w) (sym c.if-all_listed.false ∙ c.all_listed.ensures)

pub returns : goal.returns
returns c =
    let a = c.args in literals-no a.work.now a.dots a.w a.node (sym c.if-is_list.false ∙ c.is_list.ensures a.w)
