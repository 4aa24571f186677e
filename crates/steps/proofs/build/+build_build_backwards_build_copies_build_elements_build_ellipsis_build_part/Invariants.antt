-- The proof of the cycle that builds templates. The measure is the reference of a template or of an element: a cell's parts are
-- below it, and what only passes a template on stands above who takes it.
use Rattle.std.proofs.Common.{◌+◌, ◌*◌}
use Rattle.steps.specs.CopyLaws.{Turning}
use Rattle.steps.proofs.build.+build_build_backwards_build_copies_build_elements_build_ellipsis_build_part.Given as goal

abbrev pub decreases-build : goal.decreases-build
decreases-build l =
    6 * l.t + 1

abbrev pub decreases-build_backwards : goal.decreases-build_backwards
decreases-build_backwards l =
    6 * l.e + 3

abbrev pub decreases-build_copies : goal.decreases-build_copies
decreases-build_copies l =
    6 * l.e + 5

abbrev pub decreases-build_elements : goal.decreases-build_elements
decreases-build_elements l =
    6 * l.e + 4

abbrev pub decreases-build_ellipsis : goal.decreases-build_ellipsis
decreases-build_ellipsis l =
    6 * l.t

abbrev pub decreases-build_part : goal.decreases-build_part
decreases-build_part l =
    6 * l.t + 2

abbrev pub invariant-build_backwards-loop : goal.invariant-build_backwards-loop
invariant-build_backwards-loop l =
    Turning l.fn.work l.work l.top l.fuel l.env l.w l.e l.c l.counter l.list l.left l.table
