-- `every_item` lends a table of zeros with a count for each item.
use borrow.Author.Rules.{rules}
use Rattle.layout.proofs.reference.every_item.Statement.{statement}
use Rattle.layout.proofs.reference.every_item.Tie as tie
use Rattle.words.specs.Limits.{items_most}
use Rattle.layout.specs.Counts.{most-zero}

items-good-requires : tie.Need-items_good-requires
items-good-requires c κs =
    let pre = c.requires in
    (pre.0, pre.1, pre.2, search rules, most-zero 512)

items-good-requires-2 : tie.Need-items_good-requires-2
items-good-requires-2 c κs =
    let pre = c.requires in
    (pre.0, pre.1, pre.2, pre.2, most-zero items_most)

pub every_item_spec : {M : Type 1} → statement M
every_item_spec =
    tie.close
    (tie.spec
    (λ c. search rules)  -- slice-aggregate-items-good
    items-good-requires
    (λ c. search rules)  -- returns
    (λ c. search rules)  -- slice-aggregate-items-good-2
    items-good-requires-2
    (λ c. search rules))  -- returns-2
