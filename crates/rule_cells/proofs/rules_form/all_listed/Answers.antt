-- `rules_form::all_listed`: what is so of the node is so of the list.
use mathlib.Core.Path.{sym, ◌∙◌}
use mathlib.Core.Bool.{true, false}
use native.Mathlib.Omega.{arith}
use Rattle.arena.specs.ListLaws.{pair-falls}
use Rattle.rule_cells.specs.Forms.{all_end, all-no, all_more}
use Rattle.rule_cells.proofs.rules_form.all_listed.Goals as goal

pub loop-dots-init : goal.loop-dots-init
loop-dots-init c =
    λ r h. h

pub loop-dots-smaller : goal.loop-dots-smaller
loop-dots-smaller c =
    omega (arith, c.reference-at.ensures, pair-falls c.args.work.now c.loop-dots.at 1 (sym c.word.ensures ∙ c.loop-dots-test.true))

pub loop-dots-preserved : goal.loop-dots-preserved
loop-dots-preserved c =
    let a = c.args in
    λ r h. c.loop-dots.invariant r (all_more a.work.now a.dots a.w c.loop-dots.at _ (sym c.word.ensures ∙ c.loop-dots-test.true) c.reference-first.ensures _ r c.reference-at.ensures (sym c.if-may_be_listed.true ∙ c.may_be_listed.ensures) h)

pub returns-else-may_be_listed : goal.returns-else-may_be_listed
returns-else-may_be_listed c =
    let a = c.args in
    c.loop-dots.invariant false (all-no a.work.now a.dots a.w c.loop-dots.at _ (sym c.word.ensures ∙ c.loop-dots-test.true) c.reference-first.ensures (sym c.if-may_be_listed.false ∙ c.may_be_listed.ensures))

pub returns : goal.returns
returns c =
    let a = c.args in
    c.loop-dots.invariant true (all_end a.work.now a.dots a.w c.loop-dots.at (λ z. c.loop-dots-test.false (c.word.ensures ∙ z)))
