-- A variable's tree is copied; every other cell without parts is one item.
use Rattle.arena.specs.ArenaLaws.{reference_at-most}
use Rattle.steps.specs.BuildLaws.{room-less, room-node}
use Rattle.steps.specs.ResultLaws.{variable-waits, made-variable, made_none, made-insert, kind-plain, made-constant, made-empty}
use native.Mathlib.Omega.{arith}
use mathlib.Core.Path.{sym, ◌∙◌}
use Rattle.steps.proofs.build.build_leaf.Goals as goal

pub copy_tree-requires : goal.copy_tree-requires
copy_tree-requires c =
    let a = c.args in
    variable-waits a.work.now a.top a.fuel a.env.now a.w a.t _ c.word-tag.ensures c.requires.0 _ _ _ c.if-tag-eq-VARIABLE.true c.word-k.ensures c.word-d.ensures c.taken-node.ensures

pub returns-then-tag-eq-VARIABLE : goal.returns-then-tag-eq-VARIABLE
returns-then-tag-eq-VARIABLE c =
    let a = c.args in
    made-variable a.work.now a.top a.fuel a.env.now a.w a.t _ c.word-tag.ensures c.requires.0 _ _ _ c.if-tag-eq-VARIABLE.true c.word-k.ensures c.word-d.ensures c.taken-node.ensures c.copy_tree.new.work c.copy_tree.result c.copy_tree.ensures

pub returns-in_err-left : goal.returns-in_err-left
returns-in_err-left c =
    let a = c.args in
    rw c.from_residual.ensures (made_none a.work.now a.top a.fuel a.env.now a.w a.t _ c.word-tag.ensures c.requires.0 (omega (arith, c.in_err-left.ensures)))

pub copy_name-requires : goal.copy_name-requires
copy_name-requires c =
    let a = c.args in
    (room-node a.work.now a.top a.fuel (omega (arith, c.in_ok-left.ensures.0)) c.requires.0.room, omega (arith, c.reference-node.ensures, reference_at-most a.work.now a.t 3, c.requires.0.template-below), omega (arith, c.reference-wrap.ensures, reference_at-most a.work.now a.t 2, c.requires.0.template-below))

pub returns-then-tag-eq-NAME : goal.returns-then-tag-eq-NAME
returns-then-tag-eq-NAME c =
    let a = c.args in
    made-insert a.work.now a.top a.fuel a.env.now a.w a.t _ c.word-tag.ensures c.requires.0 _ (omega (arith, c.in_ok-left.ensures.0)) c.in_ok-left.ensures.1 _ _ _ _ c.if-tag-eq-NAME.true c.reference-node.ensures c.reference-wrap.ensures c.copy_name.ensures

pub put_constant-requires : goal.put_constant-requires
put_constant-requires c =
    let a = c.args in
    let k = kind-plain a.work.now a.top a.fuel a.env.now a.w a.t _ c.word-tag.ensures c.requires.0 _ c.if-tag-eq-CONSTANT.true c.word-kind.ensures in (room-less _ _ (room-node a.work.now a.top a.fuel (omega (arith, c.in_ok-left.ensures.0)) c.requires.0.room), k.0, k.1, k.2)

pub returns-then-tag-eq-CONSTANT : goal.returns-then-tag-eq-CONSTANT
returns-then-tag-eq-CONSTANT c =
    let a = c.args in
    made-constant a.work.now a.top a.fuel a.env.now a.w a.t _ c.word-tag.ensures c.requires.0 _ (omega (arith, c.in_ok-left.ensures.0)) c.in_ok-left.ensures.1 _ _ _ _ _ c.if-tag-eq-CONSTANT.true c.word-kind.ensures c.word-a.ensures c.word-b.ensures c.put_constant.ensures

pub put_empty-requires : goal.put_empty-requires
put_empty-requires c =
    let a = c.args in
    room-less _ _ (room-node a.work.now a.top a.fuel (omega (arith, c.in_ok-left.ensures.0)) c.requires.0.room)

pub returns : goal.returns
returns c =
    let a = c.args in
    made-empty a.work.now a.top a.fuel a.env.now a.w a.t _ c.word-tag.ensures c.requires.0 _ (omega (arith, c.in_ok-left.ensures.0)) c.in_ok-left.ensures.1 _ _ c.if-tag-eq-VARIABLE.false c.if-tag-eq-NAME.false c.if-tag-eq-CONSTANT.false (λ z. c.requires.1 (sym c.word-tag.ensures ∙ z)) (λ z. c.requires.2 (sym c.word-tag.ensures ∙ z)) c.put_empty.ensures
