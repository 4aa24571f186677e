-- Each turn stands for all that the first stood for; the measure falls.
use mathlib.Core.Path.{◌≡◌}
use lib.ListN.{length}
use Rattle.runner.specs.Memo.{Memo}
use Rattle.runner.specs.Machine.{measure}
use Rattle.runner.specs.LoopLaws.{Follows}
use Rattle.runner.proofs.machine.go.Given as goal

abbrev pub invariant-loop-turn : goal.invariant-loop-turn
invariant-loop-turn l = (length l.table ≡ length l.fn.table) × Memo l.words l.ends × Follows l.words l.budget l.fn.table l.initial.turn l.table l.turn

abbrev pub decreases-loop-turn : goal.decreases-loop-turn
decreases-loop-turn l = measure l.budget l.turn
