-- One name after another: those from i on are all good where all are.
use Rattle.std.proofs.Common.{◌≡◌, ◌≤◌, length, drop}
use Rattle.words.specs.Lists.{all_of}
use Rattle.core_term.specs.Code.Window.{good_name}
use Rattle.core_term.proofs.head.names_good.Given as goal

abbrev pub invariant-loop-i : goal.invariant-loop-i
invariant-loop-i l =
    (l.i ≤ length l.formals) × (all_of (good_name l.tabled l.names) (drop l.i l.formals) ≡ all_of (good_name l.tabled l.names) l.formals)
