-- Eight times the power, four times, twice and once.
use Rattle.std.proofs.Common.{arith}
use Rattle.writer.specs.DigitsLaws.{split-is}
use Rattle.writer.proofs.numbers.split.Goals as goal

pub returns : goal.returns
returns c = let a = c.less-a.ensures in
    let b = c.less-b.ensures in
    let d = c.less-c.ensures in
    split-is c.args.n c.args.p (omega arith) a.0 a.1 b.0 b.1 d.0 d.1 c.less.ensures.0 c.less.ensures.1
