use Rattle.std.proofs.Common.{Ok, refl, arith}
use Rattle.environments.specs.PatternCells.{part_falls}
use Rattle.environments.specs.LengthLaws.{differ-passed}
use Rattle.environments.specs.DrivingLaws.{deeper-below, driven-none, driven-few, driven-one, driven-both, driven-differ}
use Rattle.environments.proofs.driving.+drivers.Goals as goal

pub returns-then-d-j : goal.returns-then-d-j
returns-then-d-j t c =
    let args' = c.args in
    driven-few args'.work.now args'.env.now args'.t _ c.word-tag.ensures args'.j args'.inner (Ok args'.before) _ c.in-1.is c.word-d.ensures c.if-d-j.true

pub returns-else-d-j : goal.returns-else-d-j
returns-else-d-j t c =
    let args' = c.args in
    driven-one args'.work.now args'.env.now args'.t _ c.word-tag.ensures args'.j args'.inner (Ok args'.before) _ _ _ _ c.in-1.is c.word-d.ensures c.word-k.ensures (omega (arith, c.if-d-j.false)) c.copies.ensures c.also.ensures

pub returns-in_default : goal.returns-in_default
returns-in_default t c =
    let args' = c.args in
    driven-none args'.work.now args'.env.now args'.t _ c.word-tag.ensures args'.j args'.inner (Ok args'.before) (λ z. omega arith) (λ z. omega arith) (λ z. omega arith)

pub returns-in_default-2 : goal.returns-in_default-2
returns-in_default-2 t c =
    let args' = c.args in
    driven-none args'.work.now args'.env.now args'.t _ c.word-tag.ensures args'.j args'.inner (Ok args'.before) (λ z. omega arith) (λ z. omega arith) (λ z. omega arith)

pub deeper-requires : goal.deeper-requires
deeper-requires t c =
    let l = part_falls c.args.work.now c.args.t _ c.word-tag.ensures 3 _ (λ z. omega arith) c.reference-head.ensures in omega (arith, l, c.requires)

pub drivers-requires : goal.drivers-requires
drivers-requires t c =
    let l = part_falls c.args.work.now c.args.t _ c.word-tag.ensures 3 _ (λ z. omega arith) c.reference-head.ensures in let m = deeper-below _ _ c.args.j c.deeper.ensures in (omega (arith, l, c.decreases), omega (arith, l, m, c.requires))

pub drivers-requires-in-6 : goal.drivers-requires-in-6
drivers-requires-in-6 t c =
    let l = part_falls c.args.work.now c.args.t _ c.word-tag.ensures 2 _ (λ z. omega arith) c.reference-rest.ensures in (omega (arith, l, c.decreases), omega (arith, l, c.requires))

pub returns-in_err-first-in-6 : goal.returns-in_err-first-in-6
returns-in_err-first-in-6 t c =
    let args' = c.args in
    rw (differ-passed c.from_residual.result c.from_residual.ensures.0) (driven-differ args'.work.now args'.env.now args'.t _ c.word-tag.ensures args'.j args'.inner (Ok args'.before) _ _ _ (omega arith) (omega arith) c.deeper.ensures c.reference-head.ensures refl _ c.in_err-first-in-6.ensures)

pub returns-in_ok-first-in-6 : goal.returns-in_ok-first-in-6
returns-in_ok-first-in-6 t c =
    let args' = c.args in
    driven-both args'.work.now args'.env.now args'.t _ c.word-tag.ensures args'.j args'.inner (Ok args'.before) _ _ _ (omega arith) (omega arith) c.deeper.ensures c.reference-head.ensures c.reference-rest.ensures _ _ c.in_ok-first-in-6.ensures c.drivers-in-6.ensures
