-- The offset is in the text.
use Rattle.std.proofs.Common.{◌≤◌, ◌-◌, length}
use Rattle.tokens.proofs.print_tokens.Given as goal

abbrev pub invariant-loop-lexeme : goal.invariant-loop-lexeme
invariant-loop-lexeme g l = l.at ≤ length l.text

abbrev pub decreases-loop-lexeme : goal.decreases-loop-lexeme
decreases-loop-lexeme g l = length l.text - l.at
