use Rattle.std.proofs.Common.{sym}
use borrow.Author.Tests.{not-true, not-false}
use Rattle.writer.specs.LaidLaws.{left_is, left-none}
use Rattle.writer.specs.PiecesLaws.{gap-yes, gap-no}
use Rattle.writer.proofs.numbers.gap.Goals as goal

pub returns-then-not-wanted : goal.returns-then-not-wanted
returns-then-not-wanted c =
    left_is (sym (gap-no c.args.wanted (not-true c.args.wanted c.if-not-wanted.true-raw))) (left-none c.args.ink _ c.args.out.now c.requires)

pub returns : goal.returns
returns c = left_is (sym (gap-yes c.args.wanted (not-false c.args.wanted c.if-not-wanted.false-raw))) c.byte.ensures
