-- A node that is no pair is one item: nothing, a name or a constant.
use Rattle.arena.specs.Arena.{tree_at}
use Rattle.steps.specs.BuildLaws.{room-less, room-node, unpaid-none, copied-empty, copied-name, copied-constant}
use Rattle.std.proofs.Common.{sym, ◌∙◌, arith}
use Rattle.steps.proofs.copy.copy_leaf.Goals as goal

pub returns-in_err-left : goal.returns-in_err-left
returns-in_err-left c =
    let a = c.args in
    rw c.from_residual.ensures (unpaid-none (tree_at a.work.now a.node a.w) a.work.now a.top a.fuel (omega (arith, c.in_err-left.ensures)))

pub put_empty-requires : goal.put_empty-requires
put_empty-requires c =
    let a = c.args in
    let pre = c.requires in
    room-less _ _ (room-node a.work.now a.top a.fuel (omega (arith, c.in_ok-left.ensures.0)) pre.0.room)

pub returns-then-kind-eq-EMPTY : goal.returns-then-kind-eq-EMPTY
returns-then-kind-eq-EMPTY c =
    let a = c.args in
    let pre = c.requires in
    copied-empty a.work.now a.top a.fuel a.node a.w _ (omega (arith, c.in_ok-left.ensures.0)) c.in_ok-left.ensures.1 _ c.word-kind.ensures _ _ c.if-kind-eq-EMPTY.true c.put_empty.ensures

pub copy_name-requires : goal.copy_name-requires
copy_name-requires c =
    let a = c.args in
    let pre = c.requires in
    (room-node a.work.now a.top a.fuel (omega (arith, c.in_ok-left.ensures.0)) pre.0.room, pre.0.node-below, pre.0.wrap-below)

pub returns-then-kind-eq-NAME : goal.returns-then-kind-eq-NAME
returns-then-kind-eq-NAME c =
    let a = c.args in
    let pre = c.requires in
    copied-name a.work.now a.top a.fuel a.node a.w _ (omega (arith, c.in_ok-left.ensures.0)) c.in_ok-left.ensures.1 _ c.word-kind.ensures _ _ c.if-kind-eq-NAME.true c.copy_name.ensures

pub put_constant-requires : goal.put_constant-requires
put_constant-requires c =
    let a = c.args in
    let pre = c.requires in
    (room-less _ _ (room-node a.work.now a.top a.fuel (omega (arith, c.in_ok-left.ensures.0)) pre.0.room), c.if-kind-eq-EMPTY.false, c.if-kind-eq-NAME.false, λ z. pre.1 (sym c.word-kind.ensures ∙ z))

pub returns : goal.returns
returns c =
    let a = c.args in
    let pre = c.requires in
    copied-constant a.work.now a.top a.fuel a.node a.w _ (omega (arith, c.in_ok-left.ensures.0)) c.in_ok-left.ensures.1 _ c.word-kind.ensures _ _ _ _ c.if-kind-eq-EMPTY.false c.if-kind-eq-NAME.false pre.1 c.word-a.ensures c.word-b.ensures c.put_constant.ensures
