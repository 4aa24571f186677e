use Rattle.std.proofs.Common.{◌≡◌, ℕ, ◌+◌, ◌-◌, ◌^◌, ◌<◌, refl, subst, ◌∙◌, add-one, arith, length-set}
use Rattle.writer.specs.DigitsLaws.{lay-left, lay-next, lay-last}
use Rattle.writer.proofs.numbers.lay.Goals as goal

pub loop-i-init : goal.loop-i-init
loop-i-init c =
    let a = c.args in
    let e : a.k - 0 ≡ a.k = omega arith in
    let z : a.at + 0 ≡ a.at = omega arith in
    rw (e, z) (refl, subst (λ (x : ℕ). a.n < 10 ^ x) (add-one a.k) c.requires.2, refl)

pub loop-i-preserved : goal.loop-i-preserved
loop-i-preserved c =
    let at = c.args.at + c.loop-i.i in
    let i = c.args.k - c.loop-i.i in
    let e : c.args.k - (c.loop-i.i + 1) ≡ i - 1 = omega arith in (
      length-set c.loop-i.out _ _ ∙ c.loop-i.invariant.0,
      rw e (lay-left i c.loop-i.left _ _ _ at c.loop-i.out (omega arith) c.power.ensures c.split-part.ensures.0 c.split-part.ensures.1),
      rw e (lay-next i c.loop-i.left _ _ _ at c.loop-i.out (omega arith) c.power.ensures c.split-part.ensures.0 c.split-part.ensures.1 _ (omega arith) (omega (arith, c.loop-i.invariant.0)) ∙ c.loop-i.invariant.2),
    )

pub returns : goal.returns
returns c =
    lay-last (c.args.k - c.loop-i.i) c.loop-i.left (c.args.at + c.args.k) _ c.loop-i.out (omega arith) (omega arith) (omega (arith, c.loop-i.invariant.0)) ∙ c.loop-i.invariant.2
