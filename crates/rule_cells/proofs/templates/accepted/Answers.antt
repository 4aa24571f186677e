-- `templates::accepted`: a driven element before `...`, any element before another.
use Rattle.rule_cells.specs.Drive.{accepted-dots, accepted-plain}
use Rattle.rule_cells.proofs.templates.accepted.Goals as goal

pub returns-then-dots : goal.returns-then-dots
returns-then-dots c =
    let a = c.args in accepted-dots a.work.now a.at a.dots _ c.if-dots.true c.driven.ensures

pub returns : goal.returns
returns c =
    let a = c.args in accepted-plain a.work.now a.at a.dots c.if-dots.false
