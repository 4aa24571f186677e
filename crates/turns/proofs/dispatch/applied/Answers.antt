-- `dispatch::applied`: the header's words, and the whole list as operands.
use borrow.Author.Rules.{rules}
use Rattle.words.specs.Limits.{macros_most}
use Rattle.turns.specs.DispatchLaws.{applied-turned}
use Rattle.turns.proofs.dispatch.applied.Goals as goal

pub returns : goal.returns
returns c = let a = c.args in
    λ macros placed other operations fuel ready. applied-turned macros_most operations a.work.now a.core.now macros fuel a.list.node a.list.tail a.list.wrap a.reached placed other ready _ _ _ c.count-count.ensures c.put_node.ensures
