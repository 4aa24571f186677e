-- `is_fit` tests one item: one law of `NameItems` for each way.
use Rattle.std.proofs.Common.{◌<◌, ◌≤◌, sym, ◌∙◌, arith, lt-ltb}
use Rattle.recipe.specs.TreeFrom.{head_at}
use Rattle.layout.specs.DistinctNames.{passes}
use Rattle.layout.specs.NameItems.{fit-other, fit_low, fit-else}
use Rattle.layout.proofs.distinct.is_fit.Goals as goal

pub returns-then-kind-ne-NAME : goal.returns-then-kind-ne-NAME
returns-then-kind-ne-NAME c =
    let a = c.args in
    sym (fit-other a.table.now c.requires.0 a.i c.requires.1 (passes a.low) (λ q. c.if-kind-ne-NAME.true (c.kind.ensures ∙ q)))

pub returns-then-number-low : goal.returns-then-number-low
returns-then-number-low c =
    let a = c.args in
    let h : head_at a.table.now a.i < a.low = omega (arith, c.head-number.ensures, c.if-number-low.true) in
    rw (lt-ltb _ _ c.if-number-low.true) (sym (fit_low a.table.now c.requires.0 a.i c.requires.1 a.low (sym c.kind.ensures ∙ c.if-kind-ne-NAME.false) h))

pub returns-else-number-low : goal.returns-else-number-low
returns-else-number-low c =
    let a = c.args in
    let h : a.low ≤ head_at a.table.now a.i = omega (arith, c.head-number.ensures, c.if-number-low.false) in
    rw c.head-number.ensures (sym (fit-else a.table.now c.requires.0 a.i c.requires.1 a.low (sym c.kind.ensures ∙ c.if-kind-ne-NAME.false) h))
