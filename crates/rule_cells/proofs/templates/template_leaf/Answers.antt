-- `templates::template_leaf`: a name, the empty list or a constant.
use Rattle.rule_cells.specs.ParseLaws.{room-leaf}
use Rattle.rule_cells.specs.TemplateLaws.{left-name, left-empty, left-constant}
use mathlib.Core.Path.{sym, ◌∙◌}
use Rattle.rule_cells.specs.Scopes.{dots_under, variables_under}
use Rattle.rule_cells.proofs.templates.template_leaf.Goals as goal

pub template_name-requires : goal.template_name-requires
template_name-requires c =
    let a = c.args in
    (room-leaf a.work.now a.node a.scope.wrap a.top c.requires.0, c.requires.0.node-below, c.requires.0.wrap-below, c.requires.1, c.requires.2)

pub returns-then-kind-eq-NAME : goal.returns-then-kind-eq-NAME
returns-then-kind-eq-NAME c =
    let a = c.args in
    left-name (dots_under a.work.now a.scope) (variables_under a.work.now a.vars.now a.scope) a.scope.d a.work.now a.node a.scope.wrap a.top c.template_name.new.work c.template_name.result (sym c.word-kind.ensures ∙ c.if-kind-eq-NAME.true) c.template_name.ensures

pub returns-then-kind-eq-EMPTY : goal.returns-then-kind-eq-EMPTY
returns-then-kind-eq-EMPTY c =
    let a = c.args in
    left-empty (dots_under a.work.now a.scope) (variables_under a.work.now a.vars.now a.scope) a.scope.d a.work.now a.node a.scope.wrap a.top (sym c.word-kind.ensures ∙ c.if-kind-eq-EMPTY.true)

pub put_constant-r-requires : goal.put_constant-r-requires
put_constant-r-requires c =
    let a = c.args in room-leaf a.work.now a.node a.scope.wrap a.top c.requires.0

pub returns : goal.returns
returns c =
    let a = c.args in
    left-constant (dots_under a.work.now a.scope) (variables_under a.work.now a.vars.now a.scope) a.scope.d a.work.now a.node a.scope.wrap a.top _ _ _ _ _ c.word-kind.ensures c.word-first.ensures c.word-second.ensures (λ z. c.if-kind-eq-EMPTY.false (c.word-kind.ensures ∙ z)) (λ z. c.if-kind-eq-NAME.false (c.word-kind.ensures ∙ z)) c.requires.3 c.put_constant-r.ensures.1
