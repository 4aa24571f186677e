use mathlib.Core.Path.{ap, ◌∙◌}
use Rattle.std.specs.Prelude.{Ok}
use Rattle.std.proofs.lemmas.Result.{err_from_is_err_and}
use native.Mathlib.Omega.{arith}
use mathlib.Core.List.{List}
use Rattle.arena.specs.Arena.{tree_at, name_at}
use Rattle.turns.specs.Memory.{tables}
use Rattle.turns.specs.Turns.{Lent}
use Rattle.turns.specs.Leaves.{Leaf, name_end}
use Rattle.turns.specs.LeafLaws.{found_in}
use Rattle.turns.specs.DispatchLaws.{opened-as}
use Rattle.expander.specs.CycleLaws.{going_start, walking_start}
use Rattle.expander.specs.CycleCallLaws.{going-ready, again-falls, again-going, spread-asks, spread-over, over-right, stopped-right, operands_end, operand-asks, operand-refused, next-falls, operand-walking}
use Rattle.expander.specs.OperandLaws.{operand-room, name-expands, empty-expands, constant-asks, constant-expands}
use Rattle.expander.proofs.cycle.+expression_operand_operands.Goals as goal

pub expression-loop-n-init : goal.expression-loop-n-init
expression-loop-n-init t c =
    let pre = c.requires in
    λ o lent. going_start o _ _ _ _ _ pre.2 pre.1

pub expression-turn-requires : goal.expression-turn-requires
expression-turn-requires t c =
    let pre = c.requires in
    let lends = pre.0 in
    let o = lends.operations in
    let lent = lends.lent in
    ((c.loop-n.invariant o lent).placed, going-ready o _ _ _ _ _ _ _ _ (c.loop-n.invariant o lent) pre.2)

pub expression-loop-n-smaller : goal.expression-loop-n-smaller
expression-loop-n-smaller t c =
    let lends = c.requires.0 in
    let o = lends.operations in
    let lent = lends.lent in
    let after = tables c.turn.new.work c.turn.new.core c.turn.new.macros in
    again-falls o c.args.fuel _ _ _ _ _ _ _ (c.loop-n.invariant o lent) after c.turn.result (c.turn.ensures o lent) _ _ _ (c.in_ok-n.was ∙ ap Ok c.in-Again.is)

pub expression-loop-n-preserved : goal.expression-loop-n-preserved
expression-loop-n-preserved t c =
    let after = tables c.turn.new.work c.turn.new.core c.turn.new.macros in
    λ o lent. again-going o c.args.fuel _ _ _ _ _ _ _ (c.loop-n.invariant o lent) after c.turn.result (c.turn.ensures o lent) _ _ _ (c.in_ok-n.was ∙ ap Ok c.in-Again.is)

pub expression-operands-requires : goal.expression-operands-requires
expression-operands-requires t c =
    let lends = c.requires.0 in
    let o = lends.operations in
    let lent = lends.lent in
    let after = tables c.turn.new.work c.turn.new.core c.turn.new.macros in
    let asks = spread-asks o c.args.fuel _ _ _ _ _ _ _ (c.loop-n.invariant o lent) after c.turn.result (c.turn.ensures o lent) _ _ _ (c.in_ok-n.was ∙ ap Ok c.in-Operands.is) c.requires.2 in
    (omega (arith, c.decreases, asks.0), (c.requires.0, asks.1, asks.2))

pub expression-shape_of-work-in-Operands : goal.expression-shape_of-work-in-Operands
expression-shape_of-work-in-Operands t c =
    let lends = c.requires.0 in
    let o = lends.operations in
    let lent = lends.lent in
    c.operands.auto.work ∙ c.turn.auto.work ∙ (c.loop-n.invariant o lent).kept.work-long

pub expression-shape_of-core-in-Operands : goal.expression-shape_of-core-in-Operands
expression-shape_of-core-in-Operands t c =
    let lends = c.requires.0 in
    let o = lends.operations in
    let lent = lends.lent in
    c.operands.auto.core ∙ c.turn.auto.core ∙ (c.loop-n.invariant o lent).kept.core-long

pub expression-shape_of-known-in-Operands : goal.expression-shape_of-known-in-Operands
expression-shape_of-known-in-Operands t c =
    let lends = c.requires.0 in
    let o = lends.operations in
    let lent = lends.lent in
    c.operands.auto.known ∙ c.turn.auto.macros ∙ (c.loop-n.invariant o lent).kept.macros-long

pub expression-returns-in-Operands : goal.expression-returns-in-Operands
expression-returns-in-Operands t c =
    let after = tables c.turn.new.work c.turn.new.core c.turn.new.macros in
    λ o lent. spread-over o c.args.fuel _ _ _ _ _ _ _ (c.loop-n.invariant o lent) after c.turn.result (c.turn.ensures o lent) _ _ _ (c.in_ok-n.was ∙ ap Ok c.in-Operands.is) _ _ (c.operands.ensures o lent)

pub expression-shape_of-work-in-Over : goal.expression-shape_of-work-in-Over
expression-shape_of-work-in-Over t c =
    let lends = c.requires.0 in
    c.turn.auto.work ∙ (c.loop-n.invariant lends.operations lends.lent).kept.work-long

pub expression-shape_of-core-in-Over : goal.expression-shape_of-core-in-Over
expression-shape_of-core-in-Over t c =
    let lends = c.requires.0 in
    c.turn.auto.core ∙ (c.loop-n.invariant lends.operations lends.lent).kept.core-long

pub expression-shape_of-known-in-Over : goal.expression-shape_of-known-in-Over
expression-shape_of-known-in-Over t c =
    let lends = c.requires.0 in
    c.turn.auto.macros ∙ (c.loop-n.invariant lends.operations lends.lent).kept.macros-long

pub expression-returns-in_err-n : goal.expression-returns-in_err-n
expression-returns-in_err-n t c =
    let after = tables c.turn.new.work c.turn.new.core c.turn.new.macros in
    let p = err_from_is_err_and c.from_residual.result c.from_residual.ensures.1 in
    λ o lent. rw (p.1, p.2) (stopped-right o c.args.fuel _ _ _ _ _ _ _ (c.loop-n.invariant o lent) after c.turn.result (c.turn.ensures o lent) _ c.in_err-n.was)

pub expression-returns-in-Over : goal.expression-returns-in-Over
expression-returns-in-Over t c =
    let after = tables c.turn.new.work c.turn.new.core c.turn.new.macros in
    λ o lent. over-right o c.args.fuel _ _ _ _ _ _ _ (c.loop-n.invariant o lent) after c.turn.result (c.turn.ensures o lent) _ (c.in_ok-n.was ∙ ap Ok c.in-Over.is)

pub operand-bare_name-requires : goal.operand-bare_name-requires
operand-bare_name-requires t c = let a = c.args in operand-room a.work.now a.core.now a.known.now a.fuel a.node a.wrap a.from c.requires.1 c.requires.2

pub operand-expression-requires : goal.operand-expression-requires
operand-expression-requires t c = (omega (arith, c.decreases), c.requires)

pub operand-constant-requires : goal.operand-constant-requires
operand-constant-requires t c = let a = c.args in constant-asks a.work.now a.core.now a.known.now a.fuel a.node a.wrap a.from c.requires.1 c.requires.2 _ _ _ (opened-as a.work.now a.node _ _ c.in-Constant.is c.opened.ensures)

pub operand-returns-in-Empty : goal.operand-returns-in-Empty
operand-returns-in-Empty t c = let a = c.args in λ o lent. empty-expands a.work.now a.core.now a.known.now a.fuel a.node a.wrap a.from c.requires.1 c.requires.2 (opened-as a.work.now a.node _ _ c.in-Empty.is c.opened.ensures) o _ c.refused.ensures

pub operand-returns-in-Name : goal.operand-returns-in-Name
operand-returns-in-Name t c =
    let a = c.args in
    λ o lent. name-expands a.work.now a.core.now a.known.now a.fuel a.node a.wrap a.from c.requires.1 c.requires.2 _ _ (opened-as a.work.now a.node _ _ c.in-Name.is c.opened.ensures) o _ c.bare_name.result
    (found_in o a.operations.now (name_at a.work.now a.node a.wrap) lent (λ f. Leaf (name_end f) 2 a.from a.core.now c.bare_name.new.core c.bare_name.result) c.bare_name.ensures)

pub operand-returns-in-Constant : goal.operand-returns-in-Constant
operand-returns-in-Constant t c = let a = c.args in λ o lent. constant-expands a.work.now a.core.now a.known.now a.fuel a.node a.wrap a.from c.requires.1 c.requires.2 _ _ _ (opened-as a.work.now a.node _ _ c.in-Constant.is c.opened.ensures) o _ (Ok c.constant.result) c.constant.ensures

pub operands-loop-work-init : goal.operands-loop-work-init
operands-loop-work-init t c =
    let pre = c.requires in
    λ o lent. walking_start o _ _ _ _ _ pre.2 pre.1

pub operands-operand-requires : goal.operands-operand-requires
operands-operand-requires t c =
    let lends = c.requires.0 in
    let o = lends.operations in
    let lent = lends.lent in
    let asks = operand-asks o c.args.fuel _ _ _ _ _ _ _ (c.loop-work.invariant o lent) c.requires.2 _ c.word.ensures c.loop-work-test.true _ c.reference-head.ensures in
    (omega (arith, c.decreases, asks.0), (c.requires.0, asks.1, asks.2))

pub operands-returns-in-Err : goal.operands-returns-in-Err
operands-returns-in-Err t c =
    let after = tables c.operand.new.work c.operand.new.core c.operand.new.known in
    λ o lent. operand-refused o c.args.fuel _ _ _ _ _ _ _ (c.loop-work.invariant o lent) c.requires.2 _ c.word.ensures c.loop-work-test.true _ c.reference-head.ensures after c.operand.result (c.operand.ensures o lent) _ c.in-Err.is

pub operands-loop-work-smaller : goal.operands-loop-work-smaller
operands-loop-work-smaller t c =
    let lends = c.requires.0 in
    let o = lends.operations in
    let lent = lends.lent in
    let after = tables c.operand.new.work c.operand.new.core c.operand.new.known in
    next-falls o c.args.fuel _ _ _ _ _ _ _ (c.loop-work.invariant o lent) c.requires.2 _ c.word.ensures c.loop-work-test.true _ c.reference-head.ensures after c.operand.result (c.operand.ensures o lent) _ c.in-Ok.is _ c.reference-list.ensures

pub operands-loop-work-preserved : goal.operands-loop-work-preserved
operands-loop-work-preserved t c =
    let after = tables c.operand.new.work c.operand.new.core c.operand.new.known in
    λ o lent. operand-walking o c.args.fuel _ _ _ _ _ _ _ (c.loop-work.invariant o lent) c.requires.2 _ c.word.ensures c.loop-work-test.true _ c.reference-head.ensures after c.operand.result (c.operand.ensures o lent) _ c.in-Ok.is _ c.reference-list.ensures

pub operands-shape_of-work : goal.operands-shape_of-work
operands-shape_of-work t c =
    let lends = c.requires.0 in
    (c.loop-work.invariant lends.operations lends.lent).kept.work-long

pub operands-shape_of-core : goal.operands-shape_of-core
operands-shape_of-core t c =
    let lends = c.requires.0 in
    (c.loop-work.invariant lends.operations lends.lent).kept.core-long

pub operands-shape_of-known : goal.operands-shape_of-known
operands-shape_of-known t c =
    let lends = c.requires.0 in
    (c.loop-work.invariant lends.operations lends.lent).kept.macros-long

pub operands-returns : goal.operands-returns
operands-returns t c =
    λ o lent. operands_end o c.args.fuel _ _ _ _ _ _ _ (c.loop-work.invariant o lent) c.requires.2 _ c.word.ensures c.loop-work-test.false
