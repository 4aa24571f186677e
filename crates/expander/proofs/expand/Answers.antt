-- `expand`: grounds 7 to 10 are one law each; past them the recipe's expansion, zeros, and the answer.
use mathlib.Core.Path.{refl, sym, ap, ◌∙◌}
use Prim.Native.Nat.{ℕ}
use lib.ListN.{replicate}
use borrow.Author.Tests.{not-true, not-false}
use Rattle.recipe.specs.Table.{item_count}
use Rattle.layout.specs.Places.{places-none}
use Rattle.expander.specs.ServiceLaws.{served-layout, served-fuel, served-tables, served-operations, lends, expanded-fits, served-expanded}
use Rattle.expander.proofs.expand.Goals as goal

pub returns-then-not-is_layout : goal.returns-then-not-is_layout
returns-then-not-is_layout c = let a = c.args in
    served-layout a.items.now a.fuel a.work.now a.core.now (sym c.is_layout.ensures ∙ not-true _ c.if-not-is_layout.true-raw) _ c.into.ensures

pub returns-then-not-fuel_fits : goal.returns-then-not-fuel_fits
returns-then-not-fuel_fits c = let a = c.args in
    served-fuel a.items.now a.fuel a.work.now a.core.now (sym c.is_layout.ensures ∙ not-false _ c.if-not-is_layout.false-raw) (sym c.fuel_fits.ensures ∙ not-true _ c.if-not-fuel_fits.true-raw) _ c.into-then-not-fuel_fits.ensures

pub returns-then-not-tables_fit : goal.returns-then-not-tables_fit
unfolding item_count
returns-then-not-tables_fit c = let a = c.args in
    served-tables a.items.now a.fuel a.work.now a.core.now (sym c.is_layout.ensures ∙ not-false _ c.if-not-is_layout.false-raw) (sym c.fuel_fits.ensures ∙ not-false _ c.if-not-fuel_fits.false-raw) (sym c.tables_fit.ensures ∙ not-true _ c.if-not-tables_fit.true-raw) _ c.into-then-not-tables_fit.ensures

pub operations-requires : goal.operations-requires
operations-requires c = ((sym c.is_layout.ensures ∙ not-false _ c.if-not-is_layout.false-raw), refl, places-none)

pub returns-then-not-operations : goal.returns-then-not-operations
unfolding item_count
returns-then-not-operations c = let a = c.args in
    served-operations a.items.now a.fuel a.work.now a.core.now (sym c.is_layout.ensures ∙ not-false _ c.if-not-is_layout.false-raw) (sym c.fuel_fits.ensures ∙ not-false _ c.if-not-fuel_fits.false-raw) (sym c.tables_fit.ensures ∙ not-false _ c.if-not-tables_fit.false-raw) (sym c.operations.ensures.passes ∙ not-true _ c.if-not-operations.true-raw) _ c.into-then-not-operations.ensures

pub expand_recipe-ended-requires : goal.expand_recipe-ended-requires
unfolding item_count
expand_recipe-ended-requires c = let a = c.args in
    let good = not-false _ c.if-not-operations.false-raw in
    lends a.items.now a.fuel a.work.now a.core.now (sym c.is_layout.ensures ∙ not-false _ c.if-not-is_layout.false-raw) (sym c.fuel_fits.ensures ∙ not-false _ c.if-not-fuel_fits.false-raw) (sym c.tables_fit.ensures ∙ not-false _ c.if-not-tables_fit.false-raw) _ (sym c.operations.ensures.passes ∙ good) (c.operations.ensures.places good) c.operations.auto.places

pub finish-requires : goal.finish-requires
unfolding item_count
finish-requires c = let a = c.args in
    let good = not-false _ c.if-not-operations.false-raw in
    let lent = lends a.items.now a.fuel a.work.now a.core.now (sym c.is_layout.ensures ∙ not-false _ c.if-not-is_layout.false-raw) (sym c.fuel_fits.ensures ∙ not-false _ c.if-not-fuel_fits.false-raw) (sym c.tables_fit.ensures ∙ not-false _ c.if-not-tables_fit.false-raw) _ (sym c.operations.ensures.passes ∙ good) (c.operations.ensures.places good) c.operations.auto.places in
    expanded-fits a.items.now a.fuel a.work.now a.core.now _ _ lent.begun c.expand_recipe-ended.ensures c.expand_recipe-ended.auto.core

pub returns : goal.returns
unfolding item_count
returns c = let a = c.args in
    let good = not-false _ c.if-not-operations.false-raw in
    let lent = lends a.items.now a.fuel a.work.now a.core.now (sym c.is_layout.ensures ∙ not-false _ c.if-not-is_layout.false-raw) (sym c.fuel_fits.ensures ∙ not-false _ c.if-not-fuel_fits.false-raw) (sym c.tables_fit.ensures ∙ not-false _ c.if-not-tables_fit.false-raw) _ (sym c.operations.ensures.passes ∙ good) (c.operations.ensures.places good) c.operations.auto.places in
    served-expanded a.items.now a.fuel a.work.now a.core.now _ _ lent.begun c.expand_recipe-ended.ensures c.expand_recipe-ended.auto.core _ _ _ c.finish.ensures ((c.fill.ensures.after (λ y e. e)) ∙ ap (λ (n : ℕ). replicate n 0) c.expand_recipe-ended.auto.work)
