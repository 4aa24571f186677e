-- The measure is what the table lacks to be the larger one, which is never full.
use Rattle.std.proofs.Common.{◌+◌, ◌*◌, ◌-◌, length}
use Rattle.arena.specs.Arena.{step_limit}
use Rattle.resolution.proofs.names.+same_grown.Given as goal

abbrev pub decreases-same_grown : goal.decreases-same_grown
decreases-same_grown l = (3 * step_limit + 1) - length l.table.now
