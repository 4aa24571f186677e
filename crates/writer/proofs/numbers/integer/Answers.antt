use Rattle.core_term.proofs.DecimalLaws.{integer-below, integer-above}
use Rattle.writer.specs.LaidLaws.{left_is}
use Rattle.writer.proofs.numbers.integer.Goals as goal

pub returns-then-z-lt0 : goal.returns-then-z-lt0
returns-then-z-lt0 c = left_is (integer-below c.args.w c.ranges.w _ c.of_word-z.ensures _ c.size-n.ensures c.if-z-lt0.true) c.numbered.ensures

pub returns : goal.returns
returns c = left_is (integer-above c.args.w c.ranges.w _ c.of_word-z.ensures _ c.size-n.ensures c.if-z-lt0.false) c.digits.ensures
