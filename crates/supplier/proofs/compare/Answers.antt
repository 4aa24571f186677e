-- Grounds 7, 10 and 19 are one law each; past them the text.
use mathlib.Core.Path.{refl, sym, ◌∙◌}
use native.Mathlib.Omega.{arith}
use borrow.Author.Tests.{not-true, not-false}
use lib.Seq.{length-take-le}
use Rattle.layout.specs.Places.{places-none}
use Rattle.supplier.specs.NamesLaws.{have-slots}
use Rattle.supplier.specs.ServiceLaws.{compared-7, compared-10, compared-term, compared-slots, compared-text}
use Rattle.supplier.proofs.compare.Goals as goal

pub returns-then-not-is_layout : goal.returns-then-not-is_layout
returns-then-not-is_layout c = compared-7 _ _ _ _ _ _ (sym c.is_layout.ensures ∙ not-true _ c.if-not-is_layout.true-raw)

pub operations-requires : goal.operations-requires
operations-requires c = ((sym c.is_layout.ensures ∙ not-false _ c.if-not-is_layout.false-raw), refl, places-none)

pub returns-then-not-operations : goal.returns-then-not-operations
returns-then-not-operations c = compared-10 _ _ _ _ _ _ (sym c.is_layout.ensures ∙ not-false _ c.if-not-is_layout.false-raw) (sym c.operations.ensures.passes ∙ not-true _ c.if-not-operations.true-raw)

pub numbers-count-requires : goal.numbers-count-requires
numbers-count-requires c = ((sym c.is_layout.ensures ∙ not-false _ c.if-not-is_layout.false-raw), (sym c.operations.ensures.passes ∙ not-false _ c.if-not-operations.false-raw), omega arith)

pub returns-then-not-is_term : goal.returns-then-not-is_term
returns-then-not-is_term c = compared-term _ _ _ _ _ _ (sym c.is_layout.ensures ∙ not-false _ c.if-not-is_layout.false-raw) (sym c.operations.ensures.passes ∙ not-false _ c.if-not-operations.false-raw) _ _ c.numbers-count.ensures.within c.numbers-count.ensures.numbers (sym c.is_term.ensures ∙ not-true _ c.if-not-is_term.true-raw)

pub slice_bounds-all_named-end : goal.slice_bounds-all_named-end
slice_bounds-all_named-end c = sym (length-take-le _ _ c.numbers-count.ensures.within)

pub returns-then-not-all_named : goal.returns-then-not-all_named
returns-then-not-all_named c = compared-slots _ _ _ _ _ _ (sym c.is_layout.ensures ∙ not-false _ c.if-not-is_layout.false-raw) (sym c.operations.ensures.passes ∙ not-false _ c.if-not-operations.false-raw) _ _ c.numbers-count.ensures.within c.numbers-count.ensures.numbers (sym c.is_term.ensures ∙ not-false _ c.if-not-is_term.false-raw) (sym c.all_named.ensures ∙ not-true _ c.if-not-all_named.true-raw)

pub slice_bounds-held-end : goal.slice_bounds-held-end
slice_bounds-held-end c = sym (length-take-le _ _ c.numbers-count.ensures.within)

pub held-requires : goal.held-requires
held-requires c = have-slots _ _ (sym c.all_named.ensures ∙ not-false _ c.if-not-all_named.false-raw)

pub returns : goal.returns
returns c = compared-text _ _ _ _ _ _ (sym c.is_layout.ensures ∙ not-false _ c.if-not-is_layout.false-raw) (sym c.operations.ensures.passes ∙ not-false _ c.if-not-operations.false-raw) _ _ c.numbers-count.ensures.within c.numbers-count.ensures.numbers (sym c.is_term.ensures ∙ not-false _ c.if-not-is_term.false-raw) (sym c.all_named.ensures ∙ not-false _ c.if-not-all_named.false-raw) _ _ _ c.held.ensures
