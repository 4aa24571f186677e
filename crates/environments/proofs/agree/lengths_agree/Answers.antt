-- `agree::lengths_agree`: nothing is round all of a template.
use Rattle.environments.specs.AgreeLaws.{agrees-whole}
use Rattle.environments.proofs.agree.lengths_agree.Goals as goal

pub returns : goal.returns
returns c =
    let a = c.args in
    agrees-whole a.work.now a.env.now a.t _ c.agree.ensures
