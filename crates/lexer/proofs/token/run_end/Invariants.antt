-- All bytes passed are in the run.
use Rattle.std.proofs.Common.{◌≡◌, ◌≤◌, length, true}
use Rattle.words.specs.Lists.{all_of}
use Rattle.words.specs.Parts.{part}
use Rattle.reading.specs.Token.{is_running}
use Rattle.lexer.proofs.token.run_end.Given as goal

abbrev pub invariant-loop-at : goal.invariant-loop-at
invariant-loop-at l =
    (l.at ≤ length l.text) × (all_of is_running (part l.from l.at l.text) ≡ true)
