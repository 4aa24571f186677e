-- `cells::put_constant`: the new node is a constant.
use Rattle.arena.specs.CellLaws.{grown-constant}
use Rattle.arena.proofs.cells.put_constant.Goals as goal

pub returns : goal.returns
returns c =
    let a = c.args in
    let pre = c.requires in
    grown-constant a.work.now _ a.top _ a.kind a.first a.second pre.1 pre.2 pre.3 c.put.ensures
