-- `patterns::following`: the count of what stands behind the ellipsis.
use Rattle.rule_cells.specs.PatternLaws.{behind-count, behind-none}
use Rattle.rule_cells.proofs.patterns.following.Goals as goal

pub returns-then-followed : goal.returns-then-followed
returns-then-followed c =
    let a = c.args in behind-count a.work.now a.rest _ _ a.followed c.rest-after.ensures c.count.ensures

pub returns : goal.returns
returns c =
    let a = c.args in behind-none a.work.now a.rest a.followed c.if-followed.false
