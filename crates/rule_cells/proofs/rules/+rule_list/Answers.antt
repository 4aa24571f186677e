use Rattle.std.proofs.Common.{sym, ◌∙◌, arith}
use Rattle.rule_cells.specs.ParseLaws.{asks-tail, rest_below}
use Rattle.rule_cells.specs.PatternLaws.{pair-here}
use Rattle.rule_cells.specs.RuleListLaws.{left_end, left-later, made-later, asks-first, literals-still, left_both, dots-still}
use Rattle.rule_cells.proofs.rules.+rule_list.Goals as goal

pub returns-then-word-ne-PAIR : goal.returns-then-word-ne-PAIR
returns-then-word-ne-PAIR t c =
    let a = c.args in
    left_end a.work.now a.form a.node a.top (λ z. c.if-word-ne-PAIR.true (c.word.ensures ∙ z))

pub rule_list-requires : goal.rule_list-requires
rule_list-requires t c =
    let a = c.args in
    let p = c.requires in
    let here = pair-here a.work.now a.form a.node a.top p.0 p.1 p.2 (sym c.word.ensures ∙ c.if-word-ne-PAIR.false) c.reference-head.ensures c.reference-rest.ensures in
    (omega (arith, c.decreases, rest_below a.work.now a.node a.form.wrap a.top here.asks _ _ here.is-pair here.head-is here.rest-is), (asks-tail a.work.now a.node a.form.wrap a.top here.asks _ _ here.is-pair here.head-is here.rest-is, p.1, p.2))

pub returns-in_err-later : goal.returns-in_err-later
returns-in_err-later t c =
    let a = c.args in
    let p = c.requires in
    let here = pair-here a.work.now a.form a.node a.top p.0 p.1 p.2 (sym c.word.ensures ∙ c.if-word-ne-PAIR.false) c.reference-head.ensures c.reference-rest.ensures in
    rw c.from_residual.ensures (left-later here c.rule_list.new.work c.rule_list.result c.in_err-later.was c.rule_list.ensures)

pub rule-requires : goal.rule-requires
rule-requires t c =
    let a = c.args in
    let p = c.requires in
    let here = pair-here a.work.now a.form a.node a.top p.0 p.1 p.2 (sym c.word.ensures ∙ c.if-word-ne-PAIR.false) c.reference-head.ensures c.reference-rest.ensures in
    let later = made-later here c.rule_list.new.work c.rule_list.result _ c.in_ok-later.was c.rule_list.ensures in
    let same = c.rule_list.auto.work in
    (asks-first here same later, dots-still here same later, literals-still here same later, later.at_most)

pub returns : goal.returns
returns t c =
    let a = c.args in
    let p = c.requires in
    let here = pair-here a.work.now a.form a.node a.top p.0 p.1 p.2 (sym c.word.ensures ∙ c.if-word-ne-PAIR.false) c.reference-head.ensures c.reference-rest.ensures in
    let later = made-later here c.rule_list.new.work c.rule_list.result _ c.in_ok-later.was c.rule_list.ensures in
    left_both here c.rule_list.auto.work later c.rule.new.work c.rule.result c.rule.ensures
