-- `names::summary_in`: the name is resolved, where there is room.
use Rattle.resolution.specs.NameLaws.{summed}
use Rattle.resolution.proofs.names.summary_in.Goals as goal

pub returns : goal.returns
returns c =
    let a = c.args in
    summed a.work.now a.node a.w _ _ _ _ _ c.in_ok-held.ensures c.newest_of.ensures
