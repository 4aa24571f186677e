-- `wraps::rebind`: the same name gets the new binding, another keeps its own.
use Rattle.resolution.specs.BinderLaws.{left-given, left_alone}
use Rattle.resolution.proofs.wraps.rebind.Goals as goal

pub returns-then-same : goal.returns-then-same
returns-then-same c =
    let a = c.args in
    left-given a.work.now a.w a.table.now _ a.start a.number a.held.count a.held.binding c.requires c.is_own.auto.table (rw c.if-same.true at c.in_ok-same.ensures) _ c.word-binding.ensures

pub returns : goal.returns
returns c =
    let a = c.args in
    left_alone a.work.now a.w a.table.now _ a.start a.number a.held.count a.held.binding c.requires c.is_own.auto.table (rw c.if-same.false at c.in_ok-same.ensures)
