-- `dispatch::list`, by whether the head is a name.
use borrow.Author.Rules.{rules}
use Rattle.turns.specs.DispatchLaws.{name-heads, other-heads, leaf_room}
use Rattle.turns.proofs.dispatch.list.Goals as goal

pub named-requires : goal.named-requires
named-requires c = let a = c.args in (c.requires.0, c.requires.1, name-heads a.work.now _ _ c.is_name.ensures a.list.node _ a.list.wrap c.requires.2 c.if-is_name.true)

pub applied-requires : goal.applied-requires
applied-requires c = let a = c.args in leaf_room a.work.now a.core.now a.macros.now a.fuel a.list.node a.list.wrap a.reached c.requires.1 c.requires.0

pub returns : goal.returns
returns c = let a = c.args in
    λ operations lent. c.applied.ensures a.macros.now c.requires.0 (other-heads a.work.now _ _ c.is_name.ensures a.list.node _ a.list.wrap c.requires.2 c.if-is_name.false) operations a.fuel c.requires.1
