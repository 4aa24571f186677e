-- `marks::keep`. The loop's invariant: the marked entries below k are kept.
use Rattle.std.proofs.Common.{◌≡◌, ◌≤◌, length}
use Rattle.words.specs.Limits.{pattern_variables_most}
use Rattle.environments.specs.Entries.{table_words}
use Rattle.environments.specs.Marks.{Keeps}
use Rattle.environments.proofs.marks.keep.Given as goal

abbrev pub invariant-loop-k : goal.invariant-loop-k
invariant-loop-k l =
    (l.k ≤ pattern_variables_most) × (length l.to ≡ table_words) × Keeps l.marks l.from l.k l.to
