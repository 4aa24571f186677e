-- `rules::rule_parts`: the variables within their limits, the pattern, then the template under them.
use Rattle.std.proofs.Common.{arith}
use Rattle.std.proofs.lemmas.Bool.{false≢true}
use Rattle.rule_cells.specs.GatherLaws.{gathered-stored}
use Rattle.rule_cells.specs.RuleLaws.{held_none, small-p, asks-p, small_size, left-variables, left-pattern, made-pattern, under_top, asks-q, small-q, left-template, made-template, rule-asks, left-rule, dots-still}
use Rattle.rule_cells.proofs.rules.rule_parts.Goals as goal

pub gather-requires : goal.gather-requires
gather-requires c =
    let a = c.args in
    (omega arith, held_none a.work.now a.form.wrap _, small-p c.requires)

pub returns-in_err-count : goal.returns-in_err-count
returns-in_err-count c =
    rw c.from_residual.ensures (left-variables c.requires _ c.gather.new.vars c.gather.result c.in_err-count.was c.gather.ensures)

pub pattern-requires : goal.pattern-requires
pattern-requires c =
    let ask = c.requires in
    (asks-p ask, ask.dots-below, ask.literals-below, small_size ask, λ z. absurd (false≢true z))

pub returns-in_err-pattern : goal.returns-in_err-pattern
returns-in_err-pattern c =
    rw c.from_residual-in_err-pattern.ensures (left-pattern c.requires c.pattern.new.work _ c.in_err-pattern.was c.pattern.ensures)

pub template-requires : goal.template-requires
template-requires c =
    let ask = c.requires in
    let stored = gathered-stored _ _ _ _ _ _ c.gather.new.vars c.gather.result _ c.in_ok-count.was c.gather.ensures in
    let pattern = made-pattern ask c.pattern.new.work _ _ c.in_ok-pattern.was c.pattern.ensures in
    let same = c.pattern.auto.work in
    (asks-q ask stored same pattern, stored.held.most, omega (arith, c.gather.auto.vars), under_top ask stored same pattern, dots-still ask stored same pattern, small-q ask stored same pattern)

pub returns-in_err-template : goal.returns-in_err-template
returns-in_err-template c =
    let ask = c.requires in
    let stored = gathered-stored _ _ _ _ _ _ c.gather.new.vars c.gather.result _ c.in_ok-count.was c.gather.ensures in
    let pattern = made-pattern ask c.pattern.new.work _ _ c.in_ok-pattern.was c.pattern.ensures in
    rw c.from_residual-in_err-template.ensures (left-template ask stored c.pattern.auto.work pattern c.template.new.work c.template.result c.in_err-template.was c.template.ensures)

pub put_rule-r-requires : goal.put_rule-r-requires
put_rule-r-requires c =
    let ask = c.requires in
    let stored = gathered-stored _ _ _ _ _ _ c.gather.new.vars c.gather.result _ c.in_ok-count.was c.gather.ensures in
    let pattern = made-pattern ask c.pattern.new.work _ _ c.in_ok-pattern.was c.pattern.ensures in
    let template = made-template ask stored c.pattern.auto.work pattern c.template.new.work c.template.result _ c.in_ok-template.was c.template.ensures in
    rule-asks ask stored c.pattern.auto.work pattern c.template.auto.work template

pub returns : goal.returns
returns c =
    let ask = c.requires in
    let stored = gathered-stored _ _ _ _ _ _ c.gather.new.vars c.gather.result _ c.in_ok-count.was c.gather.ensures in
    let pattern = made-pattern ask c.pattern.new.work _ _ c.in_ok-pattern.was c.pattern.ensures in
    let template = made-template ask stored c.pattern.auto.work pattern c.template.new.work c.template.result _ c.in_ok-template.was c.template.ensures in
    left-rule ask stored c.pattern.auto.work pattern c.template.auto.work template _ _ c.put_rule-r.ensures
