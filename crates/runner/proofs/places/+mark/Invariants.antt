-- The parts before the next are noted; so many are left up to the end.
use Rattle.std.proofs.Common.{◌-◌, ◌<◌, length}
use Rattle.runner.specs.Memo.{Memo}
use Rattle.runner.specs.Due.{Going}
use Rattle.runner.proofs.places.+mark.Given as goal

abbrev pub decreases-mark : goal.decreases-mark
decreases-mark l = length l.words.now - l.at

abbrev pub invariant-loop : goal.invariant-loop
invariant-loop l = record {
  memo : Memo l.words l.ends;
  going : Going l.words l.at l.next (l.end - l.counter);
  past : l.at < l.next;
}
