-- `agree::counted`, by what is round the element.
use Rattle.std.proofs.Common.{arith}
use Rattle.environments.specs.ReachedLaws.{reached-begins, reached-once}
use Rattle.environments.proofs.agree.counted.Goals as goal

pub returns-in_default : goal.returns-in_default
returns-in_default c =
    let a = c.args in
    rw c.in_default.is (reached-once a.work.now a.env.now a.e c.copies.result c.copies.ensures)

pub returns-then-n-eq0 : goal.returns-then-n-eq0
returns-then-n-eq0 c =
    let a = c.args in
    rw (c.in-Some.is, c.if-n-eq0.true) (reached-begins a.work.now a.env.now a.e)

pub reached-requires : goal.reached-requires
reached-requires c = (omega (arith, c.if-n-eq0.false), c.requires)
