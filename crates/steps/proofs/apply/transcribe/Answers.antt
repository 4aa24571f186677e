-- A template in an environment: its result, or the ground on which there is none.
use Rattle.steps.specs.ApplyLaws.{transcribe-buildable, transcribe-plain, transcribed-done, transcribed-differ, transcribed-costly}
use Rattle.std.proofs.Common.{arith}
use Rattle.steps.proofs.apply.transcribe.Goals as goal

pub build-requires : goal.build-requires
build-requires c =
    let a = c.args in
    transcribe-buildable a.work.now a.top a.env.now a.w a.t a.limit c.requires

pub lengths_agree-requires : goal.lengths_agree-requires
lengths_agree-requires c =
    let a = c.args in
    transcribe-plain a.work.now a.top a.env.now a.w a.t a.limit c.requires _ c.in_default.ensures

pub returns-then-lengths_agree : goal.returns-then-lengths_agree
returns-then-lengths_agree c =
    let a = c.args in
    transcribed-costly a.work.now a.top a.env.now a.w a.t a.limit c.requires _ c.in_default.ensures _ c.lengths_agree.ensures c.if-lengths_agree.true

pub returns-in_default : goal.returns-in_default
returns-in_default c =
    let a = c.args in
    transcribed-differ a.work.now a.top a.env.now a.w a.t a.limit c.requires _ c.in_default.ensures _ c.lengths_agree.ensures c.if-lengths_agree.false

pub overflow_sub-result : goal.overflow_sub-result
overflow_sub-result c =
    let a = c.args in
    omega (arith, c.in-Some.ensures.paid.spent)

pub returns : goal.returns
returns c =
    let a = c.args in
    transcribed-done a.work.now a.top a.env.now a.w a.t a.limit c.requires _ _ _ c.in-Some.ensures
