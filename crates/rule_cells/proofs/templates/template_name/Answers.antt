-- `templates::template_name`: `...` is bad, a variable stands at its depth, any other name is inserted.
use Rattle.words.specs.Code.Answer.{option_of}
use Rattle.rule_cells.specs.TemplateLaws.{left-dots, left-depth, left-variable, left-insert}
use Rattle.arena.specs.Arena.{name_at}
use Rattle.std.proofs.Common.{refl, sym, ap, ◌∙◌}
use Rattle.rule_cells.specs.Scopes.{dots_under, variables_under}
use Rattle.rule_cells.proofs.templates.template_name.Goals as goal

pub returns-then-is_ellipsis : goal.returns-then-is_ellipsis
returns-then-is_ellipsis c =
    let a = c.args in
    left-dots (dots_under a.work.now a.scope) (variables_under a.work.now a.vars.now a.scope) a.scope.d (name_at a.work.now a.node a.scope.wrap) a.work.now a.top (sym c.is_ellipsis.ensures ∙ c.if-is_ellipsis.true)

pub returns : goal.returns
returns c =
    let a = c.args in
    left-variable (dots_under a.work.now a.scope) (variables_under a.work.now a.vars.now a.scope) a.scope.d (name_at a.work.now a.node a.scope.wrap) a.work.now a.top _ _ _ _ (sym c.is_ellipsis.ensures ∙ c.if-is_ellipsis.false) (sym c.find.ensures ∙ ap option_of c.in-Some.is) (sym c.if-not-depth_fits.false ∙ c.depth_fits.ensures) c.put_variable_template-r.ensures

pub returns-then-not-depth_fits : goal.returns-then-not-depth_fits
returns-then-not-depth_fits c =
    let a = c.args in
    left-depth (dots_under a.work.now a.scope) (variables_under a.work.now a.vars.now a.scope) a.scope.d (name_at a.work.now a.node a.scope.wrap) a.work.now a.top _ _ (sym c.is_ellipsis.ensures ∙ c.if-is_ellipsis.false) (sym c.find.ensures ∙ ap option_of c.in-Some.is) (sym c.if-not-depth_fits.true ∙ c.depth_fits.ensures)

pub returns-in_default : goal.returns-in_default
returns-in_default c =
    let a = c.args in
    left-insert (dots_under a.work.now a.scope) (variables_under a.work.now a.vars.now a.scope) a.scope.d (name_at a.work.now a.node a.scope.wrap) a.work.now a.top a.node a.scope.wrap _ _ refl (sym c.is_ellipsis.ensures ∙ c.if-is_ellipsis.false) (sym c.find.ensures ∙ ap option_of c.in_default.is) c.put_insert-r.ensures
