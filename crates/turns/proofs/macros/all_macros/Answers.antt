use borrow.Author.Rules.{rules}
use native.Mathlib.Omega.{arith}
use mathlib.Core.Path.{◌≡◌, refl, sym, ◌∙◌}
use lib.ListN.{length}
use Rattle.arena.specs.ListLaws.{pair-falls}
use Rattle.turns.specs.MacroRules.{Reading}
use Rattle.turns.specs.MacroRuleLaws.{one-ask, count_small, reading_begins, reading-ends, reading-bad, reading-more}
use Rattle.turns.proofs.macros.all_macros.Goals as goal

pub loop-work-init : goal.loop-work-init
loop-work-init c = let a = c.args in
    let pre = c.requires in
    (refl, refl, reading_begins a.work.now a.macros.now a.list a.wrap a.count a.top pre)

pub one_macro-requires : goal.one_macro-requires
one_macro-requires c = let a = c.args in
    one-ask c.loop-work.work c.loop-work.macros c.loop-work.at a.wrap c.loop-work.n c.loop-work.end c.loop-work.invariant.2.ask _ _ _ (sym c.word.ensures ∙ c.loop-work-test.true) c.reference-entry.ensures c.reference-at.ensures c.element-form.ensures

pub returns-in_err-end : goal.returns-in_err-end
returns-in_err-end c = let a = c.args in
    rw c.from_residual.ensures (reading-bad a.work.now a.macros.now a.list a.wrap a.count a.top c.loop-work.work c.loop-work.macros c.loop-work.at c.loop-work.n c.loop-work.end c.loop-work.invariant.2 _ _ _ (sym c.word.ensures ∙ c.loop-work-test.true) c.reference-entry.ensures c.reference-at.ensures c.element-form.ensures _ _ _ c.one_macro.ensures c.in_err-end.was)

pub overflow_add-n : goal.overflow_add-n
overflow_add-n c = let a = c.args in
    record { fits = count_small c.loop-work.work c.loop-work.macros c.loop-work.at a.wrap c.loop-work.n c.loop-work.end c.loop-work.invariant.2.ask _ _ _ (sym c.word.ensures ∙ c.loop-work-test.true) c.reference-entry.ensures c.reference-at.ensures c.element-form.ensures }

pub loop-work-smaller : goal.loop-work-smaller
loop-work-smaller c = omega (arith, c.reference-at.ensures, pair-falls c.loop-work.work c.loop-work.at 1 (sym c.word.ensures ∙ c.loop-work-test.true))

pub loop-work-preserved : goal.loop-work-preserved
loop-work-preserved c = let a = c.args in
    (c.one_macro.auto.work ∙ c.loop-work.invariant.0, c.one_macro.auto.macros ∙ c.loop-work.invariant.1, reading-more a.work.now a.macros.now a.list a.wrap a.count a.top c.loop-work.work c.loop-work.macros c.loop-work.at c.loop-work.n c.loop-work.end c.loop-work.invariant.2 _ _ _ (sym c.word.ensures ∙ c.loop-work-test.true) c.reference-entry.ensures c.reference-at.ensures c.element-form.ensures _ _ _ c.one_macro.ensures _ c.in_ok-end.was c.one_macro.auto.work c.one_macro.auto.macros)

pub returns : goal.returns
returns c = let a = c.args in
    reading-ends a.work.now a.macros.now a.list a.wrap a.count a.top c.loop-work.work c.loop-work.macros c.loop-work.at c.loop-work.n c.loop-work.end c.loop-work.invariant.2 (λ z. c.loop-work-test.false (c.word.ensures ∙ z))
