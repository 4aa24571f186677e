-- The measure is twice the wrap's reference, one more where it may be none.
use Rattle.std.proofs.Common.{◌+◌, ◌*◌}
use Rattle.resolution.proofs.wraps.+walk_walked.Given as goal

abbrev pub decreases-walk : goal.decreases-walk
decreases-walk l = 2 * l.w

abbrev pub decreases-walked : goal.decreases-walked
decreases-walked l = 2 * l.w + 1
