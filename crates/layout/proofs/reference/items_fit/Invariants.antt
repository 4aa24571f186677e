-- `items_fit` answers the test of all items, and counts all references: the answer is that of the items from i on, and what is counted and what is left to count, together, are all.
use Rattle.std.proofs.Common.{◌≡◌, ◌≤◌, length, drop}
use Rattle.words.specs.Lists.{all_of}
use Rattle.recipe.specs.Table.{items, is_item}
use Rattle.layout.specs.Counts.{Counting}
use Rattle.layout.proofs.reference.items_fit.Given as goal

abbrev pub invariant-loop-i : goal.invariant-loop-i
invariant-loop-i l =
    (length l.counts ≡ length l.initial.counts) × (l.i ≤ l.n) × (all_of (is_item l.table l.n) (items 0 l.table) ≡ all_of (is_item l.table l.n) (drop l.i (items 0 l.table))) × Counting l.table l.i l.counts
