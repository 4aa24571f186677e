-- The measure is twice the wrap's reference, one more where it may be none.
use Rattle.std.proofs.Common.{◌+◌, ◌*◌}
use Rattle.resolution.proofs.wraps.+marks_after_marks_left.Given as goal

abbrev pub decreases-marks_after : goal.decreases-marks_after
decreases-marks_after l = 2 * l.w

abbrev pub decreases-marks_left : goal.decreases-marks_left
decreases-marks_left l = 2 * l.w + 1
