use Rattle.arena.specs.ListLaws.{pair-falls}
use Rattle.environments.specs.PartLaws.{tag-falls}
use borrow.Author.Tests.{not-true, not-false}
use Rattle.steps.specs.FitLaws.{fits-variable, fits-wildcard, fits-literal, fits-constant, fits-no-pair, fits-head-no, fits-tail, fits-empty, along-begins, along-ends, along-more, each-short, each-begins, each-ends, each-no, each_more}
use native.Mathlib.Omega.{arith}
use mathlib.Core.Path.{refl, sym, ◌∙◌}
use Rattle.steps.proofs.fits.+each_fits_end_fits_fits_part_fits.Goals as goal

pub each_fits-returns-in_default : goal.each_fits-returns-in_default
each_fits-returns-in_default t c = let a = c.args in
    each-short a.work.now a.p a.list a.w c.requires c.in_default.ensures

pub each_fits-loop-first-init : goal.each_fits-loop-first-init
each_fits-loop-first-init t c = let a = c.args in
    each-begins a.work.now a.p a.list a.w c.requires _ c.in-Some.ensures

pub each_fits-part_fits-requires : goal.each_fits-part_fits-requires
each_fits-part_fits-requires t c = let a = c.args in
    let l = tag-falls a.work.now a.p 7 (sym c.requires) 3 _ (λ z. omega arith) c.reference-element.ensures in
    omega (arith, l, c.decreases)

pub each_fits-returns-then-not-part_fits : goal.each_fits-returns-then-not-part_fits
each_fits-returns-then-not-part_fits t c = let a = c.args in
    each-no a.work.now a.p a.list a.w c.loop-first.node c.loop-first.ahead _ c.word.ensures c.loop-first.invariant _ _ _ c.loop-first-test.true c.reference-element.ensures c.reference-first.ensures c.part_fits.ensures _ refl (not-true _ c.if-not-part_fits.true-raw)

pub each_fits-loop-first-smaller : goal.each_fits-loop-first-smaller
each_fits-loop-first-smaller t c = let a = c.args in
    omega (arith, c.reference-ahead.ensures, pair-falls a.work.now c.loop-first.ahead 1 (sym c.word.ensures ∙ c.loop-first-test.true))

pub each_fits-loop-first-preserved : goal.each_fits-loop-first-preserved
each_fits-loop-first-preserved t c = let a = c.args in
    each_more a.work.now a.p a.list a.w c.loop-first.node c.loop-first.ahead _ c.word.ensures c.loop-first.invariant _ _ _ c.loop-first-test.true c.reference-element.ensures c.reference-first.ensures c.part_fits.ensures _ c.reference-node.ensures _ (not-false _ c.if-not-part_fits.false-raw) c.reference-ahead.ensures

pub each_fits-fits-requires : goal.each_fits-fits-requires
each_fits-fits-requires t c = let a = c.args in
    let l = tag-falls a.work.now a.p 7 (sym c.requires) 2 _ (λ z. omega arith) c.reference-rest.ensures in
    (omega (arith, l, c.decreases), tt)

pub each_fits-returns : goal.each_fits-returns
each_fits-returns t c = let a = c.args in
    each-ends a.work.now a.p a.list a.w c.loop-first.node c.loop-first.ahead _ c.word.ensures c.loop-first.invariant _ _ c.loop-first-test.false c.reference-rest.ensures c.fits.ensures

pub end_fits-returns-then-tag-eq-VARIABLE : goal.end_fits-returns-then-tag-eq-VARIABLE
end_fits-returns-then-tag-eq-VARIABLE t c = let a = c.args in
    fits-variable a.work.now a.p _ c.word-tag.ensures a.u a.w c.if-tag-eq-VARIABLE.true

pub end_fits-returns-then-tag-eq-NAME : goal.end_fits-returns-then-tag-eq-NAME
end_fits-returns-then-tag-eq-NAME t c = let a = c.args in
    fits-literal a.work.now a.p _ c.word-tag.ensures a.u a.w _ c.if-tag-eq-NAME.true c.literal_fits.ensures

pub end_fits-returns-then-tag-eq-WILDCARD : goal.end_fits-returns-then-tag-eq-WILDCARD
end_fits-returns-then-tag-eq-WILDCARD t c = let a = c.args in
    fits-wildcard a.work.now a.p _ c.word-tag.ensures a.u a.w c.if-tag-eq-WILDCARD.true

pub end_fits-returns-then-tag-eq-CONSTANT : goal.end_fits-returns-then-tag-eq-CONSTANT
end_fits-returns-then-tag-eq-CONSTANT t c = let a = c.args in
    fits-constant a.work.now a.p _ c.word-tag.ensures a.u a.w _ c.if-tag-eq-CONSTANT.true c.constant_fits.ensures

pub end_fits-each_fits-requires : goal.end_fits-each_fits-requires
end_fits-each_fits-requires t c = (omega (arith, c.decreases), sym c.word-tag.ensures ∙ c.if-tag-eq-ELLIPSIS.true)

pub end_fits-returns-then-tag-eq-ELLIPSIS : goal.end_fits-returns-then-tag-eq-ELLIPSIS
end_fits-returns-then-tag-eq-ELLIPSIS t c = c.each_fits.ensures

pub end_fits-returns : goal.end_fits-returns
end_fits-returns t c = let a = c.args in
    fits-empty a.work.now a.p _ c.word-tag.ensures a.u a.w _ c.word.ensures c.if-tag-eq-VARIABLE.false c.if-tag-eq-NAME.false c.if-tag-eq-WILDCARD.false c.if-tag-eq-CONSTANT.false c.requires c.if-tag-eq-ELLIPSIS.false

pub fits-loop-p-init : goal.fits-loop-p-init
fits-loop-p-init t c = let a = c.args in
    along-begins a.work.now a.p a.u a.w

pub fits-returns-then-word-ne-PAIR : goal.fits-returns-then-word-ne-PAIR
fits-returns-then-word-ne-PAIR t c = let a = c.args in
    along-ends a.work.now a.p a.u a.w c.loop-p.at c.loop-p.node c.loop-p.invariant _ (fits-no-pair a.work.now c.loop-p.at _ c.word.ensures c.loop-p.node a.w _ c.word-in-loop-p.ensures c.loop-p-test.true c.if-word-ne-PAIR.true)

pub fits-part_fits-requires : goal.fits-part_fits-requires
fits-part_fits-requires t c = let a = c.args in
    omega (arith, c.loop-p.invariant.low, tag-falls a.work.now c.loop-p.at _ c.word.ensures 3 _ (λ z. omega arith) c.reference-head.ensures)

pub fits-returns-then-not-part_fits : goal.fits-returns-then-not-part_fits
fits-returns-then-not-part_fits t c = let a = c.args in
    along-ends a.work.now a.p a.u a.w c.loop-p.at c.loop-p.node c.loop-p.invariant _ (fits-head-no a.work.now c.loop-p.at _ c.word.ensures c.loop-p.node a.w _ c.word-in-loop-p.ensures _ _ _ c.loop-p-test.true c.if-word-ne-PAIR.false c.reference-head.ensures c.reference-first.ensures c.part_fits.ensures (not-true _ c.if-not-part_fits.true-raw))

pub fits-loop-p-smaller : goal.fits-loop-p-smaller
fits-loop-p-smaller t c = let a = c.args in
    tag-falls a.work.now c.loop-p.at _ c.word.ensures 2 _ (λ z. omega arith) c.reference-at.ensures

pub fits-loop-p-preserved : goal.fits-loop-p-preserved
fits-loop-p-preserved t c = let a = c.args in
    along-more a.work.now a.p a.u a.w c.loop-p.at c.loop-p.node c.loop-p.invariant _ _ c.reference-at.ensures (fits-tail a.work.now c.loop-p.at _ c.word.ensures c.loop-p.node a.w _ c.word-in-loop-p.ensures _ _ _ c.loop-p-test.true c.if-word-ne-PAIR.false c.reference-head.ensures c.reference-first.ensures c.part_fits.ensures _ _ (not-false _ c.if-not-part_fits.false-raw) c.reference-at.ensures c.reference-node.ensures)

pub fits-end_fits-requires : goal.fits-end_fits-requires
fits-end_fits-requires t c = (omega (arith, c.loop-p.invariant.low), λ z. c.loop-p-test.false (c.word.ensures ∙ z))

pub fits-returns : goal.fits-returns
fits-returns t c = let a = c.args in
    along-ends a.work.now a.p a.u a.w c.loop-p.at c.loop-p.node c.loop-p.invariant _ c.end_fits.ensures

pub part_fits-returns-then-word-eq-VARIABLE : goal.part_fits-returns-then-word-eq-VARIABLE
part_fits-returns-then-word-eq-VARIABLE t c = let a = c.args in
    fits-variable a.work.now a.p _ c.word.ensures a.u a.w c.if-word-eq-VARIABLE.true

pub part_fits-fits-requires : goal.part_fits-fits-requires
part_fits-fits-requires t c = (omega arith, c.requires)

pub part_fits-returns : goal.part_fits-returns
part_fits-returns t c = c.fits.ensures
