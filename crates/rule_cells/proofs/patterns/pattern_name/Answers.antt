-- `patterns::pattern_name`: the ellipsis, a variable, `_` or a literal.
use mathlib.Core.Path.{refl, sym, ◌∙◌}
use Rattle.arena.specs.Arena.{name_at}
use Rattle.rule_cells.specs.PatternLaws.{left-dots, left-wildcard, left-literal, left-variable}
use Rattle.arena.specs.NodeLaws.{name_at-number}
use Rattle.rule_cells.specs.Scopes.{dots_of, literals_of}
use Rattle.rule_cells.proofs.patterns.pattern_name.Goals as goal

pub returns-then-is_ellipsis : goal.returns-then-is_ellipsis
returns-then-is_ellipsis c =
    let a = c.args in left-dots (dots_of a.work.now a.form) (literals_of a.work.now a.form) a.k (name_at a.work.now a.node a.form.wrap) a.work.now a.top (sym c.is_ellipsis.ensures ∙ c.if-is_ellipsis.true)

pub returns-then-is_variable : goal.returns-then-is_variable
returns-then-is_variable c =
    let a = c.args in left-variable (dots_of a.work.now a.form) (literals_of a.work.now a.form) a.k (name_at a.work.now a.node a.form.wrap) a.work.now a.top _ _ (sym c.is_ellipsis.ensures ∙ c.if-is_ellipsis.false) (sym c.is_variable.ensures ∙ c.if-is_variable.true) c.put_variable-r.ensures

pub returns-then-number-eq-WILDCARD : goal.returns-then-number-eq-WILDCARD
returns-then-number-eq-WILDCARD c =
    let a = c.args in
    let number_is = name_at-number a.work.now a.node a.form.wrap ∙ sym c.number_of-number.ensures in
    left-wildcard (dots_of a.work.now a.form) (literals_of a.work.now a.form) a.k (name_at a.work.now a.node a.form.wrap) a.work.now a.top _ _ (sym c.is_ellipsis.ensures ∙ c.if-is_ellipsis.false) (number_is ∙ c.if-number-eq-WILDCARD.true) (sym c.is_variable.ensures ∙ c.if-is_variable.false) c.put_wildcard-r.ensures

pub returns : goal.returns
returns c =
    let a = c.args in
    let number_is = name_at-number a.work.now a.node a.form.wrap ∙ sym c.number_of-number.ensures in
    left-literal (dots_of a.work.now a.form) (literals_of a.work.now a.form) a.k (name_at a.work.now a.node a.form.wrap) a.work.now a.top a.node a.form.wrap _ _ _ _ refl (sym c.is_ellipsis.ensures ∙ c.if-is_ellipsis.false) (λ z. c.if-number-eq-WILDCARD.false (sym number_is ∙ z)) (sym c.is_variable.ensures ∙ c.if-is_variable.false) (sym number_is) c.binding_of-key.ensures c.put_literal-r.ensures
