-- `shares::look_ahead`: what is left of the list's first n elements is the node's first k.
use Rattle.environments.specs.ShareLaws.{Skipping}
use Rattle.environments.proofs.shares.look_ahead.Given as goal

abbrev pub invariant-loop-k : goal.invariant-loop-k
invariant-loop-k l =
    Skipping l.work l.list l.n l.node l.k

abbrev pub decreases-loop-k : goal.decreases-loop-k
decreases-loop-k l =
    l.k
