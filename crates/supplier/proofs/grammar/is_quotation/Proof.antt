use borrow.Author.Rules.{rules}
use Rattle.supplier.proofs.grammar.is_quotation.Statement.{statement}
use Rattle.supplier.proofs.grammar.is_quotation.Tie as tie
use Rattle.supplier.specs.ItemsLaws.{held_in, all_in}
use Rattle.supplier.specs.ListLaws.{quotes-other, one-held, quotes-at-name, quotes-at-empty, quotes-at-pair, quotes-at-constant}

returns : tie.Need-returns-then-count-ne1
returns c =
    quotes-other _ _ _ c.count.ensures c.if-count-ne1.true

head-requires : tie.Need-head-requires
head-requires c κs =
    all_in _ _ c.requires

kind-requires : tie.Need-kind-k-requires
kind-requires c κs =
    held_in _ _ (one-held _ _ _ c.count.ensures c.if-count-ne1.false _ c.head.ensures c.requires)

returns-2 : tie.Need-returns-then-k-eq-NAME
returns-2 c =
    quotes-at-name _ _ _ c.count.ensures c.if-count-ne1.false _ c.head.ensures _ c.kind-k.ensures c.if-k-eq-NAME.true

returns-3 : tie.Need-returns-then-k-eq-EMPTY
returns-3 c =
    quotes-at-empty _ _ _ c.count.ensures c.if-count-ne1.false _ c.head.ensures _ c.kind-k.ensures c.if-k-eq-EMPTY.true

returns-4 : tie.Need-returns-then-k-eq-PAIR
returns-4 c =
    quotes-at-pair _ _ _ c.count.ensures c.if-count-ne1.false _ c.head.ensures _ c.kind-k.ensures c.if-k-eq-PAIR.true

returns-5 : tie.Need-returns
returns-5 c =
    quotes-at-constant _ _ _ c.count.ensures c.if-count-ne1.false _ c.head.ensures _ c.kind-k.ensures c.if-k-eq-EMPTY.false c.if-k-eq-PAIR.false c.if-k-eq-NAME.false

pub is_quotation_spec : {M : Type 1} → statement M
is_quotation_spec =
    tie.close
    (tie.spec
    (λ c κs. search rules)  -- count-requires
    returns
    head-requires
    kind-requires
    returns-2
    returns-3
    returns-4
    returns-5)
