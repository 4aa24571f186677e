-- `environment::begin`. The loop's invariant: the entries below k are begun, and of those only the ones below `moving` go along lists.
use Rattle.std.proofs.Common.{◌≡◌, ◌≤◌, length}
use Rattle.words.specs.Limits.{pattern_variables_most}
use Rattle.environments.specs.Entries.{table_words}
use Rattle.environments.specs.EntryLaws.{BegunBelow, MovingBelow}
use Rattle.environments.proofs.environment.begin.Given as goal

abbrev pub invariant-loop-k : goal.invariant-loop-k
invariant-loop-k l =
    (l.k ≤ pattern_variables_most) × (length l.to ≡ table_words) × BegunBelow l.from l.k l.to × MovingBelow l.from l.k l.moving
