-- `cells::put_empty`: the new node is the empty list.
use Rattle.arena.specs.CellLaws.{grown-empty}
use Rattle.arena.proofs.cells.put_empty.Goals as goal

pub returns : goal.returns
returns c =
    let a = c.args in
    grown-empty a.work.now _ a.top _ 0 0 c.put.ensures
