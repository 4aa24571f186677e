use Rattle.std.proofs.Common.{◌≡◌, refl, sym, subst, ◌∙◌, arith}
use Rattle.recipe.specs.Table.{is_item}
use Rattle.layout.specs.ItemTests.{all-misfit, all_more, all_end}
use Rattle.layout.specs.Counts.{Counting, counting-most, counting_more, counting-end}
use Rattle.layout.proofs.reference.items_fit.Goals as goal

pub takes_item-requires : goal.takes_item-requires
takes_item-requires c =
    let most = counting-most c.args.table.now c.args.n c.requires.0 c.loop-i.i c.loop-i.counts c.loop-i.invariant.3 in
    (c.requires.0, omega arith, omega (arith, c.loop-i.invariant.0), λ k h. omega (arith, most k h))

pub returns-then-not-takes_item-clause-fit : goal.returns-then-not-takes_item-clause-fit
returns-then-not-takes_item-clause-fit c =
    let ws = c.args.table.now in
    let n = c.args.n in
    sym (c.loop-i.invariant.2 ∙ all-misfit (is_item ws n) ws n c.requires.0 c.loop-i.i (omega arith) (sym c.if-not-takes_item.ensures.fits))

pub loop-i-preserved : goal.loop-i-preserved
loop-i-preserved c =
    let ws = c.args.table.now in
    let n = c.args.n in
    let e = c.requires.0 in (
      c.takes_item.auto.counts ∙ c.loop-i.invariant.0,
      omega arith,
      c.loop-i.invariant.2 ∙ all_more (is_item ws n) ws n e c.loop-i.i (omega arith) (sym c.if-not-takes_item.ensures.fits),
      counting_more ws n e c.loop-i.i c.loop-i.counts c.takes_item.new.counts (omega arith) c.takes_item.auto.counts c.loop-i.invariant.3 (c.if-not-takes_item.ensures.counts refl),
    )

pub returns-clause-fit : goal.returns-clause-fit
returns-clause-fit c =
    let ws = c.args.table.now in
    let n = c.args.n in
    let e : c.loop-i.i ≡ n = omega arith in
    sym (c.loop-i.invariant.2 ∙ rw e (all_end (is_item ws n) ws n c.requires.0))

pub returns-clause-counts : goal.returns-clause-counts
returns-clause-counts c =
    let ws = c.args.table.now in
    let n = c.args.n in
    let e : c.loop-i.i ≡ n = omega arith in
    λ q. counting-end ws n c.requires.0 c.loop-i.counts (subst (λ i. Counting ws i c.loop-i.counts) e c.loop-i.invariant.3)
