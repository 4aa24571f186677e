-- The loop's invariant: the rest of the text, from a place on, has the outcome of the whole.
use Rattle.std.proofs.Common.{◌≡◌, ◌-◌, length}
use Rattle.reader.specs.Code.Reached.{Reached}
use Rattle.reader.proofs.read_text.Given as goal

abbrev pub invariant-loop-lexeme : goal.invariant-loop-lexeme
invariant-loop-lexeme l =
    (length l.items ≡ length l.fn.items) × (length l.names ≡ length l.fn.names) × (length l.index ≡ length l.fn.index)
    × Reached l.wanted l.text l.items l.names l.index l.place l.at

abbrev pub decreases-loop-lexeme : goal.decreases-loop-lexeme
decreases-loop-lexeme l = length l.text - l.at
