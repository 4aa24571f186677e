-- `templates::depth_fits`: at least as many.
use Rattle.rule_cells.specs.Drive.{depth-fits}
use Rattle.rule_cells.proofs.templates.depth_fits.Goals as goal

pub returns : goal.returns
returns c =
    let a = c.args in depth-fits a.d a.here
