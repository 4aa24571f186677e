-- The proof of the recursion of `holds`. The measure is the pattern's reference.
use Rattle.environments.proofs.parts.+holds.Given as goal

abbrev pub decreases-holds : goal.decreases-holds
decreases-holds l = l.p
