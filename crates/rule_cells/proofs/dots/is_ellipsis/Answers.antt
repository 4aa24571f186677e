-- `dots::is_ellipsis`: by number, never, or by sameness.
use Rattle.std.proofs.Common.{sym, ◌∙◌}
use Rattle.arena.specs.Arena.{name_at}
use Rattle.rule_cells.specs.Dots.{dots-by-number, dots-never, dots-chosen}
use Rattle.rule_cells.proofs.dots.is_ellipsis.Goals as goal

pub returns-in-Default : goal.returns-in-Default
returns-in-Default c =
    let a = c.args in
    dots-by-number a.work.now a.dots a.w a.node _ c.in-Default.is c.number_of.ensures

pub returns-in-Never : goal.returns-in-Never
returns-in-Never c =
    let a = c.args in
    sym (dots-never a.work.now a.dots a.w (name_at a.work.now a.node a.w) c.in-Never.is)

pub returns-in-Chosen : goal.returns-in-Chosen
returns-in-Chosen c =
    let a = c.args in
    c.same_names.ensures ∙ sym (dots-chosen a.work.now a.dots a.w (name_at a.work.now a.node a.w) _ c.in-Chosen.is)
