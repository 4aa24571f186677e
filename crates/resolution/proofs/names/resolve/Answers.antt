-- `names::resolve`: the node's own wrap, then the pending one.
use Rattle.resolution.specs.HandLaws.{answer-then, hand-none}
use Rattle.resolution.specs.NameLaws.{resolved}
use Rattle.resolution.proofs.names.resolve.Goals as goal

pub walked-requires : goal.walked-requires
walked-requires c =
    let a = c.args in
    hand-none a.table.now a.start c.requires

pub returns : goal.returns
returns c =
    let a = c.args in
    answer-then _ c.walk.result c.walk.ensures
    (λ r p. resolved a.work.now a.node a.w _ _ c.reference-own.ensures c.number_of-number.ensures a.table.now _ _ a.start _ _ _ _ c.in_ok-held.ensures p)
