-- The first rule that fits, the environment of its pattern and the use, then its template.
use Rattle.steps.specs.ApplyLaws.{apply-none, apply-asks, apply-stepped}
use Rattle.steps.proofs.apply.apply.Goals as goal

pub returns-in_default : goal.returns-in_default
returns-in_default c =
    let a = c.args in
    apply-none a.work.now a.top a.rules a.u a.w a.limit c.requires c.in_default.ensures

pub transcribe-requires : goal.transcribe-requires
transcribe-requires c =
    let a = c.args in
    apply-asks a.work.now a.top a.rules a.u a.w a.limit c.requires _ c.in-Some.ensures _ _ c.reference-p.ensures c.reference-t.ensures _ c.bind.ensures

pub returns : goal.returns
returns c =
    let a = c.args in
    apply-stepped a.work.now a.top a.rules a.u a.w a.limit c.requires _ c.in-Some.ensures _ _ c.reference-p.ensures c.reference-t.ensures _ c.bind.ensures _ _ c.transcribe.ensures
