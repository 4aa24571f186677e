-- The proof of the recursion of `mark`. The measure is the template's reference.
use Rattle.environments.proofs.marks.+mark.Given as goal

abbrev pub decreases-mark : goal.decreases-mark
decreases-mark l = l.t
