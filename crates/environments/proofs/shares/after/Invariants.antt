-- `shares::after`: what the ellipsis leaves of the node it leaves of the list, and the second node is ahead.
use Rattle.environments.specs.ShareLaws.{Left}
use Rattle.environments.proofs.shares.after.Given as goal

abbrev pub invariant-loop-node : goal.invariant-loop-node
invariant-loop-node l =
    Left l.work l.p l.list l.node l.ahead

abbrev pub decreases-loop-node : goal.decreases-loop-node
decreases-loop-node l =
    l.ahead
