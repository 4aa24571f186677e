-- `lists::is_list_of`: a list, and its count.
use Rattle.arena.specs.ListLaws.{list_of, list-not}
use Rattle.arena.proofs.lists.is_list_of.Goals as goal

pub returns-then-is_list : goal.returns-then-is_list
returns-then-is_list c =
    let a = c.args in
    list_of a.work.now a.node a.n _ c.is_list.ensures _ c.if-is_list.true c.count.ensures

pub returns-else-is_list : goal.returns-else-is_list
returns-else-is_list c =
    let a = c.args in
    rw c.if-is_list.false (list-not a.work.now a.node a.n _ c.is_list.ensures c.if-is_list.false)
