use Rattle.std.proofs.Common.{◌≡◌, ◌+◌, ◌-◌, refl, sym, ◌∙◌, arith, None, Some}
use Rattle.core_term.specs.Code.OpenedLaws.{read-none}
use Rattle.core_term.proofs.OfCode.WalkLaws.{shaped-none, none-shaped, none-row, walk-missing, walk_none, walk-within, walk-own, walk-parts, walk-leaf, walk_start, walk_end, walk-stop, walk-on, set-row, set-clear, set-undone}
use Rattle.core_term.proofs.term.+parts_term.Goals as goal

pub parts-loop-init : goal.parts-loop-init
parts-loop-init t c =
    let r = c.requires in
    let e : c.args.shape.parts - 0 ≡ c.args.shape.parts = omega arith in
    rw e (walk_start _ _ _ _ _ _ _ _ _ _ refl (set-clear _ _ _ _ _ _ r.1 r.0 c.mark.ensures) r.3 r.2)

pub parts-returns-in_err-part : goal.parts-returns-in_err-part
parts-returns-in_err-part t c =
    let a = c.args in
    none-row _ c.from_residual.ensures _ _ _ _ _ _ a.words.now a.shape.own _
    (set-row _ _ _ _ _ _ c.requires.1 c.requires.0 c.mark.ensures _ a.shape.quoted a.within a.words.now a.shape.own a.shape.parts None
    (walk-stop _ _ _ _ _ _ _ _ _ _ _ _ _ c.loop.invariant (omega arith) (shaped-none _ _ _ _ _ _ c.term.ensures.0 c.in_err-part.was)))

pub parts-loop-preserved : goal.parts-loop-preserved
parts-loop-preserved t c =
    let e : c.args.shape.parts - (c.loop.counter + 1) ≡ c.args.shape.parts - c.loop.counter - 1 = omega arith in
    rw e (walk-on _ _ _ _ _ _ _ _ _ _ _ _ _ c.loop.invariant _ _ c.in_ok-part.ensures.0 (omega arith) _ c.in_ok-part.ensures.1)

pub parts-returns : goal.parts-returns
parts-returns t c =
    let r = c.requires in
    let whole = walk_end _ _ _ _ _ _ _ _ _ _ _ _ _ c.loop.invariant (omega arith) in (
      set-row _ _ _ _ _ _ r.1 r.0 c.mark.ensures _ _ _ _ _ _ (Some (record { used = c.loop.used; bound = c.loop.now })) whole,
      set-undone _ _ _ _ _ _ r.1 r.0 c.mark.ensures _ _ c.loop.invariant.same c.mark-2.ensures,
    )

pub term-returns-in_err-node : goal.term-returns-in_err-node
term-returns-in_err-node t c =
    none-shaped _ c.from_residual.ensures _ _ _ _ _ _ _ (walk-missing _ _ _ _ _ _ _ (read-none _ _ c.read.ensures c.in_err-node.was))

pub term-returns-in_err-within : goal.term-returns-in_err-within
term-returns-in_err-within t c =
    none-shaped _ c.from_residual-in_err-within.ensures _ _ _ _ _ _ _
    (walk_none _ _ _ _ _ _ _ _ c.in_ok-node.ensures (sym c.in_err-within.was ∙ c.standing.ensures))

pub term-returns-then-shape-eq0 : goal.term-returns-then-shape-eq0
term-returns-then-shape-eq0 t c =
    (walk-leaf _ _ _ _ _ _ _ _ c.in_ok-node.ensures _ (sym c.in_ok-within.was ∙ c.standing.ensures) _ c.shape_of-shape.ensures c.if-shape-eq0.true, refl)

pub term-parts-requires : goal.term-parts-requires
term-parts-requires t c =
    let node = c.in_ok-node.ensures in
    let stands = sym c.in_ok-within.was ∙ c.standing.ensures in
    let o = walk-own _ _ _ _ _ _ _ _ node _ stands _ c.shape_of-shape.ensures in
    (omega (arith, c.decreases), (c.requires, walk-within _ _ _ _ _ _ _ _ node _ stands _ c.shape_of-shape.ensures, o.0, o.1))

pub term-returns : goal.term-returns
term-returns t c =
    (walk-parts _ _ _ _ _ _ _ _ c.in_ok-node.ensures _ (sym c.in_ok-within.was ∙ c.standing.ensures) _ c.shape_of-shape.ensures c.parts.result c.parts.ensures.0, c.parts.ensures.1)
