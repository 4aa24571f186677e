-- `nodes::opened`, by the node's kind.
use Rattle.arena.specs.Nodes.{opens-empty, opens-name, opens-pair, opens-constant}
use Rattle.arena.proofs.nodes.opened.Goals as goal

pub returns-then-kind-eq-EMPTY : goal.returns-then-kind-eq-EMPTY
returns-then-kind-eq-EMPTY c =
    let a = c.args in
    opens-empty a.work.now a.node _ c.word-kind.ensures c.if-kind-eq-EMPTY.true

pub returns-then-kind-eq-NAME : goal.returns-then-kind-eq-NAME
returns-then-kind-eq-NAME c =
    let a = c.args in
    opens-name a.work.now a.node _ c.word-kind.ensures _ _ c.if-kind-eq-NAME.true c.word-origin.ensures c.reference-own.ensures

pub returns-then-kind-eq-PAIR : goal.returns-then-kind-eq-PAIR
returns-then-kind-eq-PAIR c =
    let a = c.args in
    opens-pair a.work.now a.node _ c.word-kind.ensures _ _ c.if-kind-eq-PAIR.true c.reference-head.ensures c.reference-tail.ensures

pub returns : goal.returns
returns c =
    let a = c.args in
    opens-constant a.work.now a.node _ c.word-kind.ensures _ _ c.if-kind-eq-EMPTY.false c.if-kind-eq-NAME.false c.if-kind-eq-PAIR.false c.word-first.ensures c.word-second.ensures
