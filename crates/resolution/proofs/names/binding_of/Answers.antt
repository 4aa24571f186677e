-- `names::binding_of`: found from the outside in, else as the walk tells.
use Rattle.resolution.specs.DirectLaws.{finds-name}
use Rattle.resolution.proofs.names.binding_of.Goals as goal

pub returns-in-Some : goal.returns-in-Some
returns-in-Some c =
    let a = c.args in
    finds-name a.work.now a.node a.w _ _ _ c.number_of-number.ensures c.reference-own.ensures c.in-Some.ensures
