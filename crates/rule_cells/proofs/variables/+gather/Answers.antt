use Rattle.std.proofs.Common.{sym, ◌∙◌, arith, Some, None}
use Rattle.arena.specs.ListLaws.{pair-falls}
use Rattle.rule_cells.specs.GatherLaws.{deeper-most, gathered-stored, gathered-name, gathered-other, gathered-bad, gathering-more}
use Rattle.rule_cells.specs.Scopes.{dots_of, literals_of}
use Rattle.rule_cells.proofs.variables.+gather.Goals as goal

pub depth_before-inner-requires : goal.depth_before-inner-requires
depth_before-inner-requires t c =
    omega (arith, c.requires.2, c.loop-head.invariant.low, pair-falls c.args.work.now c.loop-head.at 1 (sym c.word.ensures ∙ c.loop-head-test.true), c.reference-rest.ensures)

pub gather-requires : goal.gather-requires
gather-requires t c =
    let p = c.requires in
    let h = pair-falls c.args.work.now c.loop-head.at 2 (sym c.word.ensures ∙ c.loop-head-test.true) in (
      omega (arith, c.decreases, c.loop-head.invariant.low, h, c.reference-head.ensures),
      (
        omega (arith, p.0, c.loop-head.auto.vars),
        c.loop-head.invariant.held,
        omega (arith, p.2, c.loop-head.invariant.low, h, c.reference-head.ensures, deeper-most _ _ _ _ c.depth_before-inner.ensures),
      ),
    )

pub returns-in_err-m : goal.returns-in_err-m
returns-in_err-m t c =
    let a = c.args in
    let bad = gathered-bad a.work.now a.form.wrap c.loop-head.at c.loop-head.m c.loop-head.vars (dots_of a.work.now a.form) (literals_of a.work.now a.form) a.d _ _ _ (sym c.word.ensures ∙ c.loop-head-test.true) c.reference-head.ensures c.reference-rest.ensures c.depth_before-inner.ensures _ c.gather.result c.in_err-m.was c.gather.ensures in
    rw c.from_residual.ensures (c.loop-head.invariant.all c.gather.new.vars None bad)

pub loop-head-smaller : goal.loop-head-smaller
loop-head-smaller t c =
    omega (arith, pair-falls c.args.work.now c.loop-head.at 1 (sym c.word.ensures ∙ c.loop-head-test.true), c.reference-rest.ensures)

pub loop-head-preserved : goal.loop-head-preserved
loop-head-preserved t c =
    let a = c.args in
    gathering-more a.work.now a.form.wrap c.loop-head.at c.loop-head.m c.loop-head.vars (dots_of a.work.now a.form) (literals_of a.work.now a.form) a.d _ _ _ (sym c.word.ensures ∙ c.loop-head-test.true) c.reference-head.ensures c.reference-rest.ensures c.depth_before-inner.ensures _ _ _ _ _
    (gathered-stored _ _ _ _ _ _ _ c.gather.result _ c.in_ok-m.was c.gather.ensures) c.loop-head.invariant

pub returns-then-word-eq-NAME : goal.returns-then-word-eq-NAME
returns-then-word-eq-NAME t c =
    let a = c.args in
    c.loop-head.invariant.all c.gather_name.new.vars c.gather_name.result
    (gathered-name a.work.now a.form.wrap c.loop-head.at c.loop-head.m c.loop-head.vars (dots_of a.work.now a.form) (literals_of a.work.now a.form) a.d c.gather_name.new.vars c.gather_name.result (sym c.word-2.ensures ∙ c.if-word-eq-NAME.true) c.gather_name.ensures)

pub returns : goal.returns
returns t c =
    let a = c.args in
    c.loop-head.invariant.all c.loop-head.vars (Some c.loop-head.m)
    (gathered-other a.work.now a.form.wrap c.loop-head.at c.loop-head.m c.loop-head.vars (dots_of a.work.now a.form) (literals_of a.work.now a.form) a.d (λ z. c.if-word-eq-NAME.false (c.word-2.ensures ∙ z)) (λ z. c.loop-head-test.false (c.word.ensures ∙ z)) c.loop-head.invariant.held)
