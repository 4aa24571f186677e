-- `cells::put_join`: the new wrap is one after another.
use Rattle.arena.specs.CellLaws.{wrapped-join}
use Rattle.arena.proofs.cells.put_join.Goals as goal

pub returns : goal.returns
returns c =
    let a = c.args in
    let pre = c.requires in
    wrapped-join a.work.now _ a.top _ a.outer a.inner pre.1 pre.2 c.put.ensures
