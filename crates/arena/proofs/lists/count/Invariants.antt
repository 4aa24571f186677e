-- `lists::count`: k elements are counted, and the node's are left.
use Rattle.arena.specs.Lists.{Counted}
use Rattle.arena.proofs.lists.count.Given as goal

abbrev pub invariant-loop-node : goal.invariant-loop-node
invariant-loop-node l = Counted l.work l.list l.node l.k

abbrev pub decreases-loop-node : goal.decreases-loop-node
decreases-loop-node l = l.node
