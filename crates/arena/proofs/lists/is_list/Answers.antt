-- `lists::is_list`, by the node's kind.
use Rattle.std.proofs.Common.{eq-eqb}
use Rattle.arena.specs.ListLaws.{list-empty, list-pair}
use Rattle.arena.proofs.lists.is_list.Goals as goal

pub returns-then-kind-eq-EMPTY : goal.returns-then-kind-eq-EMPTY
returns-then-kind-eq-EMPTY c =
    let a = c.args in
    rw (eq-eqb _ 0 c.if-kind-eq-EMPTY.true) (list-empty a.work.now a.node _ c.word-kind.ensures c.if-kind-eq-EMPTY.true)

pub returns-else-kind-eq-EMPTY : goal.returns-else-kind-eq-EMPTY
returns-else-kind-eq-EMPTY c =
    let a = c.args in
    list-pair a.work.now a.node _ c.word-kind.ensures c.if-kind-eq-EMPTY.false
