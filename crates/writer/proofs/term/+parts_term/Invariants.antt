-- `term` and `parts` lay the text of what the words begin with. The invariant is Going of specs/WalkLaws.antt; the measure is
-- twice the count of words, and one more for `term`, which calls `parts` with the same words.
use Rattle.std.proofs.Common.{◌+◌, ◌-◌, ◌*◌, nat_lt, length}
use Rattle.writer.specs.Called.{said_of}
use Rattle.writer.specs.WalkLaws.{Going}
use Rattle.writer.proofs.term.+parts_term.Given as goal

abbrev pub decreases-parts : goal.decreases-parts
decreases-parts l = 2 * length l.words.now

abbrev pub decreases-term : goal.decreases-term
decreases-term l = 2 * length l.words.now + 1

abbrev pub invariant-parts-loop-i : goal.invariant-parts-loop-i
invariant-parts-loop-i l =
    Going (said_of l.pen) l.pen.ink l.quoted l.words l.at l.fn.out l.used (l.fn.shape.parts - l.i) l.to (nat_lt 0 l.i) l.out
