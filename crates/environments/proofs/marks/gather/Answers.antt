-- `marks::gather`: a step more by the law of a list that is marked, or of one that is not; a refusal stays one through the lists that are left.
use Rattle.std.proofs.Common.{◌≡◌, ℕ, suc, Ok, ◌+◌, ◌-◌, subst, arith}
use Rattle.environments.specs.Marks.{Gathers}
use Rattle.environments.specs.LengthLaws.{differ-passed}
use Rattle.environments.specs.MarkLaws.{gather_none, gather-marked, gather-unmarked, gather-differ}
use Rattle.environments.proofs.marks.gather.Goals as goal

pub loop-i-init : goal.loop-i-init
loop-i-init c =
    let a = c.args in
    let e : a.n - 0 ≡ a.n = omega arith in
    (omega arith, λ r g. subst (λ (m : ℕ). Gathers a.work.now a.env.now a.marks.now a.level m (Ok a.before) r) e g)

pub returns-in_err-so_far : goal.returns-in_err-so_far
returns-in_err-so_far c =
    let a = c.args in
    rw (differ-passed c.from_residual.result c.from_residual.ensures.0)
    (c.loop-i.invariant.1 _ (gather-marked a.work.now a.env.now a.marks.now a.level (a.n - c.loop-i.i) (Ok c.loop-i.so_far) (a.n - 1 - c.loop-i.i) _ (omega arith) c.place.ensures _ _ _ c.if-marks-place-eq1.true c.copies.ensures c.in_err-so_far.ensures (gather-differ a.work.now a.env.now a.marks.now a.level _ _)))

pub loop-i-preserved : goal.loop-i-preserved
loop-i-preserved c =
    let a = c.args in
    let e : a.n - (c.loop-i.i + 1) ≡ a.n - 1 - c.loop-i.i = omega arith in
    let d : a.n - c.loop-i.i ≡ suc (a.n - 1 - c.loop-i.i) = omega arith in
    elim c.if-marks-place-eq1.branch [
      | goal.then-marks-place-eq1+in_ok-so_far w ↦ rw (w.so_far-is, e) (omega arith, λ r g. c.loop-i.invariant.1 r (gather-marked a.work.now a.env.now a.marks.now a.level _ _ _ _ d c.place.ensures r _ _ w.if-marks-place-eq1.true w.copies.ensures w.in_ok-so_far.ensures g))
      | goal.else-marks-place-eq1 w ↦ rw (w.so_far-is, e) (omega arith, λ r g. c.loop-i.invariant.1 r (gather-unmarked a.work.now a.env.now a.marks.now a.level _ _ _ _ d c.place.ensures r w.if-marks-place-eq1.false g))
    ]

pub returns : goal.returns
returns c =
    let a = c.args in
    c.loop-i.invariant.1 _ (gather_none a.work.now a.env.now a.marks.now a.level _ _ (omega arith))
