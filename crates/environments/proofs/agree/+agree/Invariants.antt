-- The proof of the recursion of `agree`. The measure is the template's reference.
use Rattle.environments.proofs.agree.+agree.Given as goal

abbrev pub decreases-agree : goal.decreases-agree
decreases-agree l = l.t
