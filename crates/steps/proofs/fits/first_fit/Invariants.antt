-- `fits::first_fit`: the first of the rules that fits is the first from this rule on.
use Rattle.steps.specs.FitLaws.{Tried}
use Rattle.steps.proofs.fits.first_fit.Given as goal

abbrev pub invariant-loop-rule : goal.invariant-loop-rule
invariant-loop-rule l = Tried l.work l.rules l.u l.w l.rule

abbrev pub decreases-loop-rule : goal.decreases-loop-rule
decreases-loop-rule l = l.rule
