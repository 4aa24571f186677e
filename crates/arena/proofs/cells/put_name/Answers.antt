-- `cells::put_name`: the new node is a name.
use Rattle.arena.specs.CellLaws.{grown-name}
use Rattle.arena.proofs.cells.put_name.Goals as goal

pub returns : goal.returns
returns c =
    let a = c.args in
    let pre = c.requires in
    grown-name a.work.now _ a.top _ a.origin a.own pre.1 c.put.ensures
