-- `marks::mark`: a mark below the limit is toggled, where there is room for one more.
use Rattle.std.proofs.Common.{◌<◌, arith}
use Rattle.arena.specs.Arena.{step_limit}
use Rattle.resolution.specs.HandLaws.{after-marked, after-unmarked}
use Rattle.resolution.proofs.marks.mark.Goals as goal

pub returns-then-m-ge-STEP_LIMIT : goal.returns-then-m-ge-STEP_LIMIT
returns-then-m-ge-STEP_LIMIT c =
    let a = c.args in
    after-unmarked a.marks.now a.start a.count a.m c.requires c.if-m-ge-STEP_LIMIT.true

pub returns : goal.returns
returns c =
    let a = c.args in
    let l : a.m < step_limit = omega arith in
    after-marked a.marks.now a.start a.count a.m c.requires l c.if-marks-start.false _ _ c.toggle.auto.marks c.toggle.ensures
