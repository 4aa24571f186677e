-- `marks::newest_of` answers the newest of the marks in hand.
use Rattle.std.proofs.Common.{sym}
use Rattle.resolution.specs.MarkLaws.{newest-none, newest-in}
use Rattle.resolution.proofs.marks.newest_of.Goals as goal

pub returns-then-count-eq0 : goal.returns-then-count-eq0
returns-then-count-eq0 c = sym (newest-none _ _ _ c.if-count-eq0.true)

pub returns : goal.returns
returns c =
    let a = c.args in
    sym (newest-in a.marks.now a.start a.count c.if-count-eq0.false)
