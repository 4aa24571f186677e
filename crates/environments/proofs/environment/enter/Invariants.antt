-- `environment::enter`. The loop's invariant: the entries below k are those of the next copy, and the others as they were.
use Rattle.std.proofs.Common.{◌≡◌, ◌≤◌, length}
use Rattle.environments.specs.Entries.{table_words}
use Rattle.environments.specs.EntryLaws.{Entering}
use Rattle.environments.proofs.environment.enter.Given as goal

abbrev pub invariant-loop-k : goal.invariant-loop-k
invariant-loop-k l =
    (l.k ≤ l.moving) × (length l.table ≡ table_words) × Entering l.work l.initial.table l.k l.table
