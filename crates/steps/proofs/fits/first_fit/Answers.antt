use Rattle.steps.specs.FitLaws.{tried-begins, tried-ends, tried-fits, tried-more}
use Rattle.arena.specs.ArenaLaws.{reference_at-falls}
use native.Mathlib.Omega.{arith}
use Rattle.steps.proofs.fits.first_fit.Goals as goal

pub loop-rule-init : goal.loop-rule-init
loop-rule-init c = let a = c.args in tried-begins a.work.now a.rules a.u a.w

pub returns-then-fits : goal.returns-then-fits
returns-then-fits c = let a = c.args in tried-fits a.work.now a.rules a.u a.w c.loop-rule.rule c.loop-rule.invariant _ _ c.loop-rule-test.true c.reference.ensures c.fits.ensures c.if-fits.true

pub loop-rule-smaller : goal.loop-rule-smaller
loop-rule-smaller c = let a = c.args in omega (arith, c.reference-rule.ensures, reference_at-falls a.work.now c.loop-rule.rule 1 (omega arith))

pub loop-rule-preserved : goal.loop-rule-preserved
loop-rule-preserved c = let a = c.args in tried-more a.work.now a.rules a.u a.w c.loop-rule.rule c.loop-rule.invariant _ _ c.loop-rule-test.true c.reference.ensures c.fits.ensures _ c.if-fits.false c.reference-rule.ensures

pub returns : goal.returns
returns c = let a = c.args in tried-ends a.work.now a.rules a.u a.w c.loop-rule.rule c.loop-rule.invariant c.loop-rule-test.false
