-- `ones` answers the test of all counts but the first.
use Rattle.std.proofs.Common.{◌≡◌, refl, ap, ◌∙◌, arith}
use Rattle.layout.specs.Counts.{are_ones, ones-more}
use Rattle.layout.proofs.reference.ones.Goals as goal

pub loop-i-init : goal.loop-i-init
unfolding are_ones
loop-i-init c =
    (omega arith, omega arith, refl)

pub loop-i-preserved : goal.loop-i-preserved
loop-i-preserved c =
    (omega arith, omega arith, ones-more c.loop-i.wrong c.loop-i.i c.args.counts.now c.loop-i.invariant.0 c.loop-i.invariant.2)

pub returns : goal.returns
returns c =
    let a = c.args in let e : c.loop-i.i ≡ a.n = omega arith in
    c.loop-i.invariant.2 ∙ ap (are_ones a.counts.now) e
