-- `cells::put_pair`: the new node is a pair.
use Rattle.arena.specs.CellLaws.{grown-pair}
use Rattle.arena.proofs.cells.put_pair.Goals as goal

pub returns : goal.returns
returns c =
    let a = c.args in
    let pre = c.requires in
    grown-pair a.work.now _ a.top _ a.head a.tail pre.1 pre.2 c.put.ensures
