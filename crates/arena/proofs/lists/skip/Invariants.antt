-- `lists::skip`: what is left of the list is the node after its first elements.
use Rattle.std.proofs.Common.{◌-◌}
use Rattle.arena.specs.Lists.{Skipped}
use Rattle.arena.proofs.lists.skip.Given as goal

abbrev pub invariant-loop : goal.invariant-loop
invariant-loop l = Skipped l.work l.list l.n l.node (l.n - l.counter)
