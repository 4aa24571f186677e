-- `term` and `parts` answer what the words begin with. The invariant is Walking of specs/Walk.antt; the measure is twice the
-- count of words, and one more for `term`, which calls `parts` with the same words.
use Rattle.std.proofs.Common.{◌+◌, length, ◌-◌, ◌*◌}
use Rattle.core_term.specs.Code.Window.{good_name}
use Rattle.core_term.proofs.OfCode.WalkLaws.{Walking}
use Rattle.core_term.proofs.term.+parts_term.Given as goal

abbrev pub decreases-parts : goal.decreases-parts
decreases-parts l = 2 * length l.words.now

abbrev pub decreases-term : goal.decreases-term
decreases-term l = 2 * length l.words.now + 1

abbrev pub invariant-parts-loop : goal.invariant-parts-loop
invariant-parts-loop l =
    Walking l.walk.operations (good_name l.walk.tabled l.names) l.walk.base l.quoted l.initial.flags l.within l.words l.initial.used l.end l.flags l.now l.used (l.end - l.counter)
