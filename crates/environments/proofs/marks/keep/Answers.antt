use Rattle.std.proofs.Common.{◌≡◌, ℕ, ◌∙◌, subst, arith}
use Rattle.words.specs.Limits.{pattern_variables_most}
use Rattle.environments.specs.Marks.{Keeps}
use Rattle.environments.specs.MarkLaws.{keeps-more, keeps-skip}
use Rattle.environments.proofs.marks.keep.Goals as goal

pub loop-k-init : goal.loop-k-init
loop-k-init c =
    (omega arith, c.to-1.given.0.1, λ m l. absurd (omega arith))

pub place-requires : goal.place-requires
place-requires c =
    (omega arith, omega arith)

pub offset_bounds-marks-place : goal.offset_bounds-marks-place
offset_bounds-marks-place c =
    omega (arith, c.place.ensures)

pub bounds-marks-place : goal.bounds-marks-place
bounds-marks-place c =
    omega (arith, c.place.ensures, c.requires)

pub get-x-requires : goal.get-x-requires
get-x-requires c =
    (c.from-1.given, omega arith)

pub put-requires : goal.put-requires
put-requires c =
    (c.loop-k.invariant.1, omega arith)

pub loop-k-preserved : goal.loop-k-preserved
loop-k-preserved c =
    let a = c.args in
    elim c.if-marks-place-eq1.branch [
      | goal.then-marks-place-eq1 w ↦ rw w.to-is (omega arith, w.put.auto.env ∙ c.loop-k.invariant.1, keeps-more a.marks.now a.env.now c.loop-k.k _ c.place.ensures _ c.loop-k.invariant.2 _ _ w.get-x.ensures w.put.ensures)
      | goal.else-marks-place-eq1 w ↦ rw w.to-is (omega arith, c.loop-k.invariant.1, keeps-skip a.marks.now a.env.now c.loop-k.k _ c.place.ensures _ c.loop-k.invariant.2 w.if-marks-place-eq1.false)
    ]

pub returns : goal.returns
returns c =
    let a = c.args in
    let e : c.loop-k.k ≡ pattern_variables_most = omega arith in subst (λ (n : ℕ). Keeps a.marks.now a.env.now n c.loop-k.to) e c.loop-k.invariant.2
