-- The proof of the recursion of `bind_list`. The measure is the pattern's reference.
use Rattle.environments.proofs.bind.+bind_list.Given as goal

abbrev pub decreases-bind_list : goal.decreases-bind_list
decreases-bind_list l = l.p
