-- `items_good` answers both tests: that of each item, and by the counts that of each item's references.
use borrow.Author.Rules.{rules}
use Rattle.layout.proofs.reference.items_good.Statement.{statement}
use Rattle.layout.proofs.reference.items_good.Tie as tie
use mathlib.Core.Path.{◌≡◌, sym, ◌∙◌}
use mathlib.Core.Bool.{true}
use native.Mathlib.Omega.{arith}
use borrow.Author.Tests.{not-true, not-false}
use Rattle.words.specs.Lists.{all_of}
use Rattle.words.specs.TestLaws.{and-none-left}
use Rattle.recipe.specs.Table.{items, is_item}
use Rattle.layout.specs.Counts.{once-each}

items-fit-requires : tie.Need-items_fit-requires
items-fit-requires c κs =
    let pre' = c.requires in
    (pre'.0, pre'.2, pre'.3, pre'.4)

same_length : tie.Need-shape_of-counts-then-not-items_fit
same_length c =
    search rules

returns : tie.Need-returns-then-not-items_fit
returns c =
    sym (and-none-left _ _ (sym c.items_fit.ensures.0 ∙ not-true c.items_fit.result c.if-not-items_fit.true-raw))

ones-requires : tie.Need-ones-requires
ones-requires c κs =
    (c.requires.1, omega (arith, c.items_fit.auto.counts))

same-length-2 : tie.Need-shape_of-counts
same-length-2 c =
    search rules

returns-2 : tie.Need-returns
returns-2 c =
    let ws = c.args.table.now in let n = c.args.n in let t = not-false c.items_fit.result c.if-not-items_fit.false-raw in
    let f : all_of (is_item ws n) (items 0 ws) ≡ true = sym c.items_fit.ensures.0 ∙ t in
    rw f (c.ones.ensures ∙ sym (once-each ws n c.requires.0 c.items_fit.new.counts (c.items_fit.ensures.1 t) (omega (arith, c.items_fit.auto.counts))))

pub items_good_spec : {M : Type 1} → statement M
items_good_spec =
    tie.close
    (tie.spec items-fit-requires same_length returns ones-requires same-length-2 returns-2)
