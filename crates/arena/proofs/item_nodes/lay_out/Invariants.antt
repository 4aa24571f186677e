-- `item_nodes::lay_out`. The last `laid` items have their nodes.
use Rattle.arena.specs.LayOut.{Laid}
use Rattle.std.proofs.Common.{◌≡◌, ◌≤◌, length}
use Rattle.arena.proofs.item_nodes.lay_out.Given as goal

abbrev pub invariant-loop-laid : goal.invariant-loop-laid
invariant-loop-laid l = (l.laid ≤ l.count) × (length l.work ≡ length l.fn.work) × Laid l.items l.work l.laid
