-- The proof of the recursion of `drivers`. The measure is the template's reference.
use Rattle.environments.proofs.driving.+drivers.Given as goal

abbrev pub decreases-drivers : goal.decreases-drivers
decreases-drivers l = l.t
