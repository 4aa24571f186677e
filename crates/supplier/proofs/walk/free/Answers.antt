use Rattle.supplier.specs.ToldLaws.{free-same, free_other, free_open}
use Rattle.supplier.specs.Walk.{is_operation}
use Rattle.supplier.proofs.walk.free.Goals as goal

pub returns-then-is_place : goal.returns-then-is_place
returns-then-is_place c = free-same _ _ _ _ _ c.own-node.ensures _ _ (c.is_place.ensures _ c.own-node.ensures) c.if-is_place.true

pub any_name-requires : goal.any_name-requires
any_name-requires c =
    let pre' = c.requires in
    (pre'.0.0 _ pre'.1, pre'.0.1)

pub returns-then-any_name : goal.returns-then-any_name
unfolding is_operation
returns-then-any_name c = free_other _ _ _ _ _ c.own-node.ensures _ _ (c.is_place.ensures _ c.own-node.ensures) c.if-is_place.false _ c.any_name.ensures c.if-any_name.true

pub returns : goal.returns
unfolding is_operation
returns c = free_open _ _ _ _ _ c.own-node.ensures _ _ (c.is_place.ensures _ c.own-node.ensures) c.if-is_place.false _ c.any_name.ensures c.if-any_name.false
