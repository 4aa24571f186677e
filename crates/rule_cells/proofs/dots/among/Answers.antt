-- `dots::among`: what is so of the node is so of the list.
use mathlib.Core.Path.{sym, ◌∙◌}
use mathlib.Core.Bool.{true, false}
use native.Mathlib.Omega.{arith}
use Rattle.arena.specs.ListLaws.{pair-falls}
use Rattle.rule_cells.specs.Dots.{among-end, among-here, among-more}
use Rattle.rule_cells.proofs.dots.among.Goals as goal

pub loop-dots-init : goal.loop-dots-init
loop-dots-init c =
    λ b h. h

pub returns-then-is_dots : goal.returns-then-is_dots
returns-then-is_dots c =
    let a = c.args in
    c.loop-dots.invariant true (among-here a.work.now a.dots a.w c.loop-dots.node _ (sym c.word.ensures ∙ c.loop-dots-test.true) c.reference-first.ensures (sym c.if-is_dots.true ∙ c.is_dots.ensures))

pub loop-dots-smaller : goal.loop-dots-smaller
loop-dots-smaller c =
    omega (arith, c.reference-node.ensures, pair-falls c.args.work.now c.loop-dots.node 1 (sym c.word.ensures ∙ c.loop-dots-test.true))

pub loop-dots-preserved : goal.loop-dots-preserved
loop-dots-preserved c =
    let a = c.args in
    λ b h. c.loop-dots.invariant b (among-more a.work.now a.dots a.w c.loop-dots.node _ (sym c.word.ensures ∙ c.loop-dots-test.true) c.reference-first.ensures _ b c.reference-node.ensures (sym c.if-is_dots.false ∙ c.is_dots.ensures) h)

pub returns : goal.returns
returns c =
    let a = c.args in
    c.loop-dots.invariant false (among-end a.work.now a.dots a.w c.loop-dots.node (λ z. c.loop-dots-test.false (c.word.ensures ∙ z)))
