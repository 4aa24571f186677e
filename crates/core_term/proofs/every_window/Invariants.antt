-- Every window is walked through. The invariant is Walked of specs/CheckLaws.antt.
use Rattle.std.proofs.Common.{◌-◌}
use Rattle.core_term.specs.Code.Window.{good_name}
use Rattle.core_term.proofs.OfCode.CheckLaws.{Walked}
use Rattle.core_term.proofs.every_window.Given as goal

abbrev pub invariant-loop-base : goal.invariant-loop-base
invariant-loop-base l = Walked l.operations (good_name l.tabled l.names) l.window l.words l.used l.variables l.base l.flags

abbrev pub decreases-loop-base : goal.decreases-loop-base
decreases-loop-base l = l.variables - l.base
