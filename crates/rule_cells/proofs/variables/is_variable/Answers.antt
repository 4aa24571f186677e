-- `variables::is_variable`: neither the ellipsis nor `_` nor a literal.
use mathlib.Core.Path.{sym, ◌∙◌}
use Rattle.arena.specs.Arena.{name_at}
use Rattle.rule_cells.specs.GatherLaws.{dots-no-variable, wildcard-no-variable, literal-no-variable, a-variable}
use Rattle.arena.specs.NodeLaws.{name_at-number}
use Rattle.rule_cells.specs.Scopes.{dots_of, literals_of}
use Rattle.rule_cells.proofs.variables.is_variable.Goals as goal

pub returns-then-is_ellipsis : goal.returns-then-is_ellipsis
returns-then-is_ellipsis c =
    let a = c.args in sym (dots-no-variable (dots_of a.work.now a.form) (literals_of a.work.now a.form) (name_at a.work.now a.node a.form.wrap) (sym c.is_ellipsis.ensures ∙ c.if-is_ellipsis.true))

pub returns-then-number_of-eq-WILDCARD : goal.returns-then-number_of-eq-WILDCARD
returns-then-number_of-eq-WILDCARD c =
    let a = c.args in
    let number_is = name_at-number a.work.now a.node a.form.wrap ∙ sym c.number_of.ensures in
    sym (wildcard-no-variable (dots_of a.work.now a.form) (literals_of a.work.now a.form) (name_at a.work.now a.node a.form.wrap) (sym c.is_ellipsis.ensures ∙ c.if-is_ellipsis.false) (number_is ∙ c.if-number_of-eq-WILDCARD.true))

pub returns-then-is_literal : goal.returns-then-is_literal
returns-then-is_literal c =
    let a = c.args in
    let number_is = name_at-number a.work.now a.node a.form.wrap ∙ sym c.number_of.ensures in
    sym (literal-no-variable (dots_of a.work.now a.form) (literals_of a.work.now a.form) (name_at a.work.now a.node a.form.wrap) (sym c.is_ellipsis.ensures ∙ c.if-is_ellipsis.false) (λ z. c.if-number_of-eq-WILDCARD.false (sym number_is ∙ z)) (sym c.if-is_literal.true ∙ c.is_literal.ensures))

pub returns : goal.returns
returns c =
    let a = c.args in
    let number_is = name_at-number a.work.now a.node a.form.wrap ∙ sym c.number_of.ensures in
    sym (a-variable (dots_of a.work.now a.form) (literals_of a.work.now a.form) (name_at a.work.now a.node a.form.wrap) (sym c.is_ellipsis.ensures ∙ c.if-is_ellipsis.false) (λ z. c.if-number_of-eq-WILDCARD.false (sym number_is ∙ z)) (sym c.if-is_literal.false ∙ c.is_literal.ensures))
