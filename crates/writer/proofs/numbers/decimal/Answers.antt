use Rattle.std.proofs.Common.{arith}
use Rattle.core_term.proofs.DecimalLaws.{decimal-below, decimal-above}
use Rattle.writer.specs.LaidLaws.{left-room, left-stops, left-then, left_is}
use Rattle.writer.proofs.numbers.decimal.Goals as goal

pub returns-in_err-to : goal.returns-in_err-to
returns-in_err-to c =
    left_is (decimal-below c.args.w c.ranges.w _ c.of_word-z.ensures _ c.size-n.ensures c.args.count c.if-z-lt0.true) (left-stops c.byte.ensures _ c.in_err-to.was c.from_residual.ensures)

pub point-requires : goal.point-requires
point-requires c = (left-room c.byte.ensures _ c.in_ok-to.was, omega arith, omega arith, omega arith)

pub returns-then-z-lt0 : goal.returns-then-z-lt0
returns-then-z-lt0 c =
    left_is (decimal-below c.args.w c.ranges.w _ c.of_word-z.ensures _ c.size-n.ensures c.args.count c.if-z-lt0.true) (left-then c.byte.ensures _ c.in_ok-to.was c.point.ensures)

pub returns : goal.returns
returns c =
    left_is (decimal-above c.args.w c.ranges.w _ c.of_word-z.ensures _ c.size-n.ensures c.args.count c.if-z-lt0.false) c.point-2.ensures
