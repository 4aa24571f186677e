-- So many parts are due up to the end.
use Prim.Native.Nat.{◌-◌}
use lib.ListN.{length}
use Rattle.runner.specs.Due.{Going}
use Rattle.runner.proofs.places.skip.Given as goal

abbrev pub invariant-loop-due : goal.invariant-loop-due
invariant-loop-due l = Going l.words l.place l.at l.due

abbrev pub decreases-loop-due : goal.decreases-loop-due
decreases-loop-due l = length l.words - l.at
