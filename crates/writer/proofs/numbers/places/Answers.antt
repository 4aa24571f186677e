use Rattle.std.proofs.Common.{◌≡◌, ℕ, ◌≤◌, ◌^◌, subst, arith}
use Rattle.writer.proofs.numbers.places.Goals as goal

pub returns : goal.returns
returns c =
    let e : c.loop-k.k ≡ 19 = omega arith in
    (omega arith, subst (λ (k : ℕ). 10 ^ k ≤ c.args.n) e c.loop-k.invariant, omega (arith, c.ranges.n.fits))
