-- `variables::depth_before`: one deeper before the ellipsis.
use Rattle.arena.specs.Arena.{tree_at}
use Rattle.rule_cells.specs.Dots.{dots_at}
use Rattle.rule_cells.specs.VariableLaws.{deeper-by}
use Rattle.rule_cells.proofs.variables.depth_before.Goals as goal

pub returns : goal.returns
returns c =
    let a = c.args in deeper-by (dots_at a.work.now a.dots a.w) (tree_at a.work.now a.rest a.w) a.d _ _ c.element_depth.ensures c.dots_next.ensures
