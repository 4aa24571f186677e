-- `dots::crowded`: another after the one that the rest begins with.
use Rattle.rule_cells.specs.Dots.{crowded-no, crowded-by}
use Rattle.rule_cells.proofs.dots.crowded.Goals as goal

pub returns-then-followed : goal.returns-then-followed
returns-then-followed c =
    let a = c.args in crowded-by a.work.now a.dots a.w a.rest _ a.followed _ c.if-followed.true c.rest-after.ensures c.among.ensures

pub returns : goal.returns
returns c =
    let a = c.args in crowded-no a.work.now a.dots a.w a.rest a.followed c.if-followed.false
