-- `cells::put_mark`: the new wrap marks.
use Rattle.arena.specs.CellLaws.{wrapped-mark}
use Rattle.arena.proofs.cells.put_mark.Goals as goal

pub returns : goal.returns
returns c =
    let a = c.args in
    let pre = c.requires in
    wrapped-mark a.work.now _ a.top _ a.step a.parent pre.1 pre.2 c.put.ensures
