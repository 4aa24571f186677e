-- The proof of the cycle {each_fits, end_fits, fits, part_fits}. The measure is four times the pattern's reference and the
-- member's place among those that hand the same pattern on: part_fits, fits, end_fits, each_fits.
use Prim.Native.Nat.{◌+◌, ◌*◌}
use Rattle.steps.specs.FitLaws.{Along, Matched}
use Rattle.steps.proofs.fits.+each_fits_end_fits_fits_part_fits.Given as goal

abbrev pub decreases-each_fits : goal.decreases-each_fits
decreases-each_fits l =
    4 * l.p

abbrev pub decreases-end_fits : goal.decreases-end_fits
decreases-end_fits l =
    4 * l.p + 1

abbrev pub decreases-fits : goal.decreases-fits
decreases-fits l =
    4 * l.p + 2

abbrev pub decreases-part_fits : goal.decreases-part_fits
decreases-part_fits l =
    4 * l.p + 3

abbrev pub invariant-each_fits-loop-first : goal.invariant-each_fits-loop-first
invariant-each_fits-loop-first l =
    Matched l.work l.p l.list l.w l.node l.ahead

abbrev pub decreases-each_fits-loop-first : goal.decreases-each_fits-loop-first
decreases-each_fits-loop-first l =
    l.ahead

abbrev pub invariant-fits-loop-p : goal.invariant-fits-loop-p
invariant-fits-loop-p l =
    Along l.work l.p l.u l.w l.at l.node

abbrev pub decreases-fits-loop-p : goal.decreases-fits-loop-p
decreases-fits-loop-p l =
    l.at
