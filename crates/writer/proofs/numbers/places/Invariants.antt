-- Ten to the k is no more than the number.
use Rattle.std.proofs.Common.{◌≤◌, ◌^◌}
use Rattle.writer.proofs.numbers.places.Given as goal

abbrev pub invariant-loop-k : goal.invariant-loop-k
invariant-loop-k l = 10 ^ l.k ≤ l.n
