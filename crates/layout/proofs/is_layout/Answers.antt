-- `is_layout` answers ground 7: one law of `Ground7` for each way.
use Rattle.std.proofs.Common.{sym, ◌∙◌, arith}
use Rattle.recipe.specs.Table.{item_count}
use Rattle.layout.specs.Ground7.{uneven, too_few, too_many, unfit, by-item-0}
use Rattle.layout.proofs.is_layout.Goals as goal
use Rattle.layout.proofs.is_layout.Goals.{then-table-n-via-then-table-n, then-table-n-via-else-table-n+then-n-lt-LEAST_ITEMS, then-table-n-via-else-table-n+else-n-lt-LEAST_ITEMS+then-n-gt-MOST_ITEMS}

pub returns-then-table-n : goal.returns-then-table-n
unfolding item_count
returns-then-table-n c =
    let ws = c.args.table.now in
    elim c.then-table-n.branch [
      | then-table-n-via-then-table-n w ↦ sym (uneven ws w.if-table-n.true)
      | then-table-n-via-else-table-n+then-n-lt-LEAST_ITEMS w ↦ sym (too_few ws (omega arith))
      | then-table-n-via-else-table-n+else-n-lt-LEAST_ITEMS+then-n-gt-MOST_ITEMS w ↦ sym (too_many ws (omega arith))
    ]

pub returns-then-every_item : goal.returns-then-every_item
unfolding item_count
returns-then-every_item c =
    let ws = c.args.table.now in
    c.begins_two.ensures ∙ sym (by-item-0 ws c.if-table-n.false (omega arith) (omega arith) (sym c.if-every_item.ensures))

pub returns-else-every_item : goal.returns-else-every_item
unfolding item_count
returns-else-every_item c =
    let ws = c.args.table.now in
    c.every_item.ensures ∙ sym c.if-every_item.ensures ∙ sym (unfit ws c.if-table-n.false (omega arith) (omega arith) (sym c.if-every_item.ensures))
