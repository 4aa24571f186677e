use Rattle.std.proofs.Common.{◌≡◌, ◌+◌, sym, ◌∙◌, arith}
use Rattle.arena.specs.Arena.{name_at}
use Rattle.rule_cells.specs.VariableLaws.{known-all, known-none, known-here, known_more}
use Rattle.rule_cells.proofs.variables.find.Goals as goal

pub loop-k-init : goal.loop-k-init
loop-k-init c =
    let a = c.args in
    let e : 0 + a.count ≡ a.count = omega arith in
    rw e at (known-all a.work.now a.w a.vars.now (name_at a.work.now a.node a.w) 0 a.count)

pub returns-then-same_names : goal.returns-then-same_names
returns-then-same_names c =
    let a = c.args in
    known-here a.work.now a.w a.vars.now (name_at a.work.now a.node a.w) _ _ c.loop-k-test.true (sym c.if-same_names.true ∙ c.same_names.ensures) ∙ c.loop-k.invariant

pub loop-k-preserved : goal.loop-k-preserved
loop-k-preserved c =
    let a = c.args in
    known_more a.work.now a.w a.vars.now (name_at a.work.now a.node a.w) _ _ c.loop-k-test.true (sym c.if-same_names.false ∙ c.same_names.ensures) ∙ c.loop-k.invariant

pub returns : goal.returns
returns c =
    let a = c.args in
    known-none a.work.now a.w a.vars.now (name_at a.work.now a.node a.w) _ _ (omega arith) ∙ c.loop-k.invariant
