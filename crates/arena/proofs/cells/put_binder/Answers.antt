-- `cells::put_binder`: three parts of three words; the new wrap binds.
use Rattle.arena.specs.CellLaws.{bound-cells}
use Rattle.arena.proofs.cells.put_binder.Goals as goal

pub returns : goal.returns
returns c =
    let a = c.args in
    let pre = c.requires in
    bound-cells a.binder a.work.now _ _ _ a.top _ _ _
    pre.1 pre.2 pre.3 c.put-p.ensures c.put-q.ensures c.put.ensures
