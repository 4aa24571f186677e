-- `takes_item` answers the test of one item, and counts its references: none, or a pair's two.
use borrow.Author.Rules.{rules}
use Rattle.layout.proofs.reference.takes_item.Statement.{statement}
use Rattle.layout.proofs.reference.takes_item.Tie as tie
use mathlib.Core.Path.{◌≡◌, ap₂, sym, subst, ◌∙◌}
use mathlib.Core.Bool.{false≢true}
use mathlib.Core.List.{[], ◌∷◌}
use Prim.Native.Nat.{ℕ}
use native.Mathlib.Omega.{arith}
use borrow.Author.Tests.{not-true, not-false}
use Rattle.recipe.specs.Table.{kind_at, is_item, references}
use Rattle.recipe.specs.ItemLaws.{item_at}
use Rattle.recipe.specs.Layout.{PairItem}
use Rattle.recipe.proofs.LayoutLaws.{pair_item}
use Rattle.layout.specs.ItemTests.{item-pair}
use Rattle.layout.specs.Counts.{Counted, counted_none, counted-two, most-one, references-pair, references-none}

is-leaf-requires : tie.Need-is_leaf-requires
is-leaf-requires c κs =
    (omega arith, λ e. c.if-kind-ne-PAIR.true (c.kind.ensures ∙ e))

returns : tie.Need-returns-then-kind-ne-PAIR
returns c =
    let a = c.args in let ws = a.table.now in
    let k : kind_at ws a.i ≡ 4 → ⊥ = λ e. c.if-kind-ne-PAIR.true (c.kind.ensures ∙ e) in
    (c.is_leaf.ensures a.n, λ q. subst (Counted a.counts.now a.counts.now) (sym (references-none ws a.i k)) (counted_none a.counts.now))

-- a pair's test is that of an item
tested : (c : tie.After-is_pair) → let a = c.args in is_item a.table.now a.n (item_at a.table.now a.i) ≡ c.is_pair.result
tested c =
    let a = c.args in
    let k : kind_at a.table.now a.i ≡ 4 = omega arith in
    item-pair a.table.now a.n a.i k ∙ sym c.is_pair.ensures

returns-2 : tie.Need-returns-then-not-is_pair
returns-2 c =
    (sym (tested c.before ∙ not-true c.is_pair.result c.if-not-is_pair.true-raw), λ q. absurd (false≢true q))

-- a pair that passes it refers to items of the n
pair : (c : tie.After-count-arg-1) → let a = c.args in PairItem a.table.now a.n a.i
pair c =
    let a = c.args in
    let k : kind_at a.table.now a.i ≡ 4 = omega arith in
    pair_item a.table.now a.n a.i (tested c.before.before ∙ not-false c.is_pair.result c.if-not-is_pair.false-raw) c.requires.1 k

count-requires : tie.Need-count-requires
count-requires c κs =
    (omega (arith, (pair c.before).head_below, c.head.ensures), λ k h. omega (arith, c.requires.3 k h))

count-requires-2 : tie.Need-count-requires-2
count-requires-2 c κs = (
  omega (arith, (pair c.before.before.before.before.before.before).tail_below, c.tail.ensures, c.count.auto.counts),
  most-one c.args.counts.now c.count.new.counts c.head.result 65533 c.count.auto.counts c.count.ensures c.requires.3,
)

returns-3 : tie.Need-returns
returns-3 c =
    let a = c.args in let ws = a.table.now in
    let k : kind_at ws a.i ≡ 4 = omega arith in
    let e : references (item_at ws a.i ∷ []) ≡ c.head.result ∷ c.tail.result ∷ [] =
    references-pair ws a.i k ∙ ap₂ (λ (x y : ℕ). x ∷ y ∷ []) (sym c.head.ensures) (sym c.tail.ensures) in (
      sym (tested c.before.before.before.before.before.before.before.before.before.before.before ∙ not-false c.is_pair.result c.if-not-is_pair.false-raw),
      λ q. subst (Counted a.counts.now c.count-2.new.counts) (sym e)
          (counted-two a.counts.now c.count.new.counts c.count-2.new.counts c.head.result c.tail.result c.count.auto.counts c.count.ensures c.count-2.ensures),
    )

pub takes_item_spec : {M : Type 1} → statement M
takes_item_spec =
    tie.close
    (tie.spec
    (λ c κs. search rules)  -- kind-requires
    is-leaf-requires
    returns
    (λ c κs. search rules)  -- is-pair-requires
    returns-2
    (λ c κs. search rules)  -- head-requires
    count-requires
    (λ c κs. search rules)  -- tail-requires
    count-requires-2
    (λ c. search rules)  -- same-length
    returns-3)
