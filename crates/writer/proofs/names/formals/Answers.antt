use Rattle.std.proofs.Common.{refl, arith}
use Rattle.writer.specs.LaidLaws.{left-room}
use Rattle.writer.specs.FormalsLaws.{laying-start, laying-end, laying-short, laying-full, laying-on}
use Rattle.writer.proofs.names.formals.Goals as goal

pub loop-i-init : goal.loop-i-init
loop-i-init c = laying-start _ _ _ _ _ _ c.requires.0

pub gap-requires : goal.gap-requires
gap-requires c = left-room c.loop-i.invariant.laid _ refl

pub returns-in_err-start : goal.returns-in_err-start
returns-in_err-start c = laying-short _ _ _ _ _ _ _ _ _ c.loop-i.invariant (omega arith) _ _ c.gap.ensures c.in_err-start.was c.from_residual.ensures

pub variable-requires : goal.variable-requires
variable-requires c =
    let r = c.requires in
    (left-room c.gap.ensures _ c.in_ok-start.was, record { many = omega (arith, r.2.many); slots = r.2.slots }, r.3)

pub returns-in_err-to : goal.returns-in_err-to
returns-in_err-to c =
    laying-full _ _ _ _ _ _ _ _ _ c.loop-i.invariant (omega arith) _ _ c.gap.ensures _ c.in_ok-start.was _ _ c.variable.ensures c.in_err-to.was c.from_residual-in_err-to.ensures

pub loop-i-preserved : goal.loop-i-preserved
loop-i-preserved c = laying-on _ _ _ _ _ _ _ _ _ c.loop-i.invariant (omega arith) _ _ c.gap.ensures _ c.in_ok-start.was _ _ c.variable.ensures _ c.in_ok-to.was

pub returns : goal.returns
returns c = laying-end _ _ _ _ _ _ _ _ _ c.loop-i.invariant (omega arith)
