-- `patterns::pattern_leaf`: a name, the empty list or a constant.
use Rattle.rule_cells.specs.ParseLaws.{room-leaf}
use Rattle.rule_cells.specs.PatternLaws.{left-name, left-empty, left-constant}
use mathlib.Core.Path.{sym, ◌∙◌}
use Rattle.rule_cells.specs.Scopes.{dots_of, literals_of}
use Rattle.rule_cells.proofs.patterns.pattern_leaf.Goals as goal

pub pattern_name-requires : goal.pattern_name-requires
pattern_name-requires c =
    let a = c.args in ((room-leaf a.work.now a.node a.form.wrap a.top c.requires.0), c.requires.0.node-below, c.requires.0.wrap-below, c.requires.1)

pub returns-then-kind-eq-NAME : goal.returns-then-kind-eq-NAME
returns-then-kind-eq-NAME c =
    let a = c.args in left-name (dots_of a.work.now a.form) (literals_of a.work.now a.form) a.k a.work.now a.node a.form.wrap a.top c.pattern_name.new.work c.pattern_name.result (sym c.word-kind.ensures ∙ c.if-kind-eq-NAME.true) c.pattern_name.ensures

pub returns-then-kind-eq-EMPTY : goal.returns-then-kind-eq-EMPTY
returns-then-kind-eq-EMPTY c =
    let a = c.args in left-empty (dots_of a.work.now a.form) (literals_of a.work.now a.form) a.k a.work.now a.node a.form.wrap a.top (sym c.word-kind.ensures ∙ c.if-kind-eq-EMPTY.true)

pub put_constant-r-requires : goal.put_constant-r-requires
put_constant-r-requires c =
    let a = c.args in (room-leaf a.work.now a.node a.form.wrap a.top c.requires.0)

pub returns : goal.returns
returns c =
    let a = c.args in left-constant (dots_of a.work.now a.form) (literals_of a.work.now a.form) a.k a.work.now a.node a.form.wrap a.top _ _ _ _ _ c.word-kind.ensures c.word-first.ensures c.word-second.ensures (λ z. c.if-kind-eq-EMPTY.false (c.word-kind.ensures ∙ z)) (λ z. c.if-kind-eq-NAME.false (c.word-kind.ensures ∙ z)) c.requires.2 c.put_constant-r.ensures.0
