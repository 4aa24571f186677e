-- `names::summary_of`: one mark or none, else as the walk tells.
use Rattle.resolution.specs.DirectLaws.{marked-summed}
use Rattle.resolution.proofs.names.summary_of.Goals as goal

pub returns-in-Some : goal.returns-in-Some
returns-in-Some c =
    let a = c.args in
    marked-summed a.work.now a.node a.w _ _ _ _ c.number_of-number.ensures c.reference-own.ensures c.in-Some.ensures c.count_of.ensures
