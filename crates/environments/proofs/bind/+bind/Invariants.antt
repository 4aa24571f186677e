-- The proof of the recursion of `bind`. The measure is the pattern's reference.
use Rattle.environments.proofs.bind.+bind.Given as goal

abbrev pub decreases-bind : goal.decreases-bind
decreases-bind l = l.p
