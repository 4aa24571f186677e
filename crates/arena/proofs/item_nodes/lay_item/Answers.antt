-- `item_nodes::lay_item`, by the item's kind.
use Rattle.std.proofs.Common.{◌-◌, refl, arith}
use Rattle.arena.specs.LayOut.{laying-whole, laying-most, laying-room, laid-empty, laid-name, name-few, laid-pair, laid-constant, head-below, tail-below}
use Rattle.arena.proofs.item_nodes.lay_item.Goals as goal

pub overflow_mul-top : goal.overflow_mul-top
overflow_mul-top c =
    let a = c.args in
    let pre = c.requires in
    omega (arith, laying-most a.items.now a.work.now a.count a.laid (pre), pre.more)

pub bounds-items-at : goal.bounds-items-at
bounds-items-at c =
    let a = c.args in
    let pre = c.requires in
    omega (arith, laying-whole a.items.now a.work.now a.count a.laid (pre), pre.more)

pub put_empty-requires : goal.put_empty-requires
put_empty-requires c =
    let a = c.args in
    let pre = c.requires in
    laying-room a.items.now a.work.now a.count a.laid (pre)

pub returns-then-kind-eq-EMPTY : goal.returns-then-kind-eq-EMPTY
returns-then-kind-eq-EMPTY c =
    let a = c.args in
    let pre = c.requires in
    laid-empty a.items.now a.work.now _ a.count a.laid _ _ pre refl c.if-kind-eq-EMPTY.true c.put_empty.ensures

pub bounds-items-at-then-kind-eq-NAME : goal.bounds-items-at-then-kind-eq-NAME
bounds-items-at-then-kind-eq-NAME c =
    let a = c.args in
    let pre = c.requires in
    omega (arith, laying-whole a.items.now a.work.now a.count a.laid (pre), pre.more)

pub of_item-origin-requires : goal.of_item-origin-requires
of_item-origin-requires c =
    let a = c.args in
    let pre = c.requires in
    (name-few a.items.now a.work.now a.work.now a.count a.laid _ 0 pre refl c.if-kind-eq-NAME.true, omega (arith, laying-most a.items.now a.work.now a.count a.laid pre))

pub put_name-requires : goal.put_name-requires
put_name-requires c =
    let a = c.args in
    let pre = c.requires in
    (laying-room a.items.now a.work.now a.count a.laid (pre), omega arith)

pub returns-then-kind-eq-NAME : goal.returns-then-kind-eq-NAME
returns-then-kind-eq-NAME c =
    let a = c.args in
    let pre = c.requires in
    laid-name a.items.now a.work.now _ a.count a.laid _ _ pre refl _ c.if-kind-eq-NAME.true c.of_item-origin.ensures c.put_name.ensures

pub bounds-items-at-2 : goal.bounds-items-at-2
bounds-items-at-2 c =
    let a = c.args in
    let pre = c.requires in
    omega (arith, laying-whole a.items.now a.work.now a.count a.laid (pre), pre.more)

pub bounds-items-at-3 : goal.bounds-items-at-3
bounds-items-at-3 c =
    let a = c.args in
    let pre = c.requires in
    omega (arith, laying-whole a.items.now a.work.now a.count a.laid (pre), pre.more)

pub node_of-head-requires : goal.node_of-head-requires
node_of-head-requires c =
    let a = c.args in
    let pre = c.requires in
    laying-most a.items.now a.work.now a.count a.laid (pre)

pub node_of-tail-requires : goal.node_of-tail-requires
node_of-tail-requires c =
    let a = c.args in
    let pre = c.requires in
    laying-most a.items.now a.work.now a.count a.laid (pre)

pub put_pair-requires : goal.put_pair-requires
put_pair-requires c =
    let a = c.args in
    let pre = c.requires in
    let h = head-below a.items.now a.work.now a.work.now a.count a.laid (a.count - 1 - a.laid) 0 pre refl c.if-kind-eq-PAIR.true in
    let t = tail-below a.items.now a.work.now a.work.now a.count a.laid (a.count - 1 - a.laid) 0 pre refl c.if-kind-eq-PAIR.true in
    (laying-room a.items.now a.work.now a.count a.laid (pre), omega (arith, c.node_of-head.ensures, c.node_of-tail.ensures), omega (arith, c.node_of-head.ensures, c.node_of-tail.ensures))

pub returns-then-kind-eq-PAIR : goal.returns-then-kind-eq-PAIR
returns-then-kind-eq-PAIR c =
    let a = c.args in
    let pre = c.requires in
    laid-pair a.items.now a.work.now _ a.count a.laid _ _ pre refl _ _ c.if-kind-eq-PAIR.true c.node_of-head.ensures c.node_of-tail.ensures c.put_pair.ensures

pub put_constant-requires : goal.put_constant-requires
put_constant-requires c =
    let a = c.args in
    let pre = c.requires in
    (laying-room a.items.now a.work.now a.count a.laid (pre), c.if-kind-eq-EMPTY.false, c.if-kind-eq-NAME.false, c.if-kind-eq-PAIR.false)

pub returns : goal.returns
returns c =
    let a = c.args in
    let pre = c.requires in
    laid-constant a.items.now a.work.now _ a.count a.laid _ _ pre refl c.if-kind-eq-EMPTY.false c.if-kind-eq-NAME.false c.if-kind-eq-PAIR.false c.put_constant.ensures
