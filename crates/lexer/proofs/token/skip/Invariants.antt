-- Nothing passed had a meaning, and the first token stands where it stood.
use Rattle.std.proofs.Common.{◌≡◌, ◌≤◌, length}
use Rattle.lexer.specs.Told.{meanings_from}
use Rattle.reading.specs.Offset.{start_at}
use Rattle.lexer.proofs.token.skip.Given as goal

abbrev pub invariant-loop-at : goal.invariant-loop-at
invariant-loop-at l =
    (l.at ≤ length l.text) × (meanings_from l.text l.from ≡ meanings_from l.text l.at) × (start_at l.text l.from ≡ start_at l.text l.at)
