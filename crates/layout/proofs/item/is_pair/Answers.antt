-- `is_pair` answers the test of a pair: one law of `ItemTests` for each way.
use Rattle.std.proofs.Common.{ap, sym, ◌∙◌, arith}
use Rattle.recipe.specs.Table.{kind_at}
use Rattle.recipe.specs.Layout.{is_list_kind}
use Rattle.layout.specs.ItemTests.{head-low, head-high, tail-low, tail-high, references-good}
use Rattle.layout.proofs.item.is_pair.Goals as goal
use Rattle.layout.proofs.item.is_pair.Goals.{then-h-i-via-then-h-i, then-h-i-via-else-h-i+then-n-h, then-h-i-via-else-h-i+else-n-h+then-t-i, then-h-i-via-else-h-i+else-n-h+else-t-i+then-n-t}

pub returns-then-h-i : goal.returns-then-h-i
returns-then-h-i c =
    let a = c.args in
    let ws = a.table.now in
    elim c.then-h-i.branch [
      | then-h-i-via-then-h-i w ↦ sym (head-low ws a.n a.i (omega arith))
      | then-h-i-via-else-h-i+then-n-h w ↦ sym (head-high ws a.n a.i (omega arith) (omega arith))
      | then-h-i-via-else-h-i+else-n-h+then-t-i w ↦ sym (tail-low ws a.n a.i (omega arith))
      | then-h-i-via-else-h-i+else-n-h+else-t-i+then-n-t w ↦ sym (tail-high ws a.n a.i (omega arith) (omega arith))
    ]

pub returns : goal.returns
returns c =
    let a = c.args in
    let ws = a.table.now in
    c.is_list_kind.ensures ∙ ap is_list_kind (c.kind.ensures ∙ ap (kind_at ws) c.tail-t.ensures)
    ∙ sym (references-good ws a.n a.i (omega arith) (omega arith) (omega arith) (omega arith))
