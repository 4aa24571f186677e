-- `macros::let_syntax`: its shape, its names, then its rules and its body.
use borrow.Author.Rules.{rules}
use mathlib.Core.Path.{sym, ◌∙◌}
use borrow.Author.Tests.{not-true, not-false}
use Rattle.arena.specs.Arena.{tree_at}
use Rattle.forms.proofs.ScopeLaws.{macros-names}
use Rattle.turns.specs.MacroTurns.{is_inside}
use Rattle.turns.specs.MacroTurnLaws.{macros-unshaped, macros-alike, macros-left}
use Rattle.turns.proofs.macros.let_syntax.Goals as goal

pub returns-then-not-is_macros : goal.returns-then-not-is_macros
returns-then-not-is_macros c = let a = c.args in macros-unshaped a.limit (tree_at a.work.now a.form.node a.form.wrap) (is_inside a.stand) a.reached _ (sym (c.is_macros.ensures a.form.wrap) ∙ not-true _ c.if-not-is_macros.true-raw) c.refused.ensures

pub names_distinct-requires : goal.names_distinct-requires
names_distinct-requires c = let a = c.args in macros-names (tree_at a.work.now a.form.node a.form.wrap) a.limit (sym (c.is_macros.ensures a.form.wrap) ∙ not-false _ c.if-not-is_macros.false-raw)

pub returns-then-not-names_distinct : goal.returns-then-not-names_distinct
returns-then-not-names_distinct c = let a = c.args in macros-alike a.limit (tree_at a.work.now a.form.node a.form.wrap) (is_inside a.stand) a.reached _ (sym (c.is_macros.ensures a.form.wrap) ∙ not-false _ c.if-not-is_macros.false-raw) (sym c.names_distinct.ensures ∙ not-true _ c.if-not-names_distinct.true-raw) c.refused-then-not-names_distinct.ensures

pub macros_body-requires : goal.macros_body-requires
macros_body-requires c = let a = c.args in (c.requires, (a.limit, sym (c.is_macros.ensures a.form.wrap) ∙ not-false _ c.if-not-is_macros.false-raw))

pub returns : goal.returns
returns c = let a = c.args in
    macros-left a.limit (tree_at a.work.now a.form.node a.form.wrap) (is_inside a.stand) a.reached a.work.now c.macros_body.new.work a.macros.now c.macros_body.new.macros c.macros_body.result
    (sym (c.is_macros.ensures a.form.wrap) ∙ not-false _ c.if-not-is_macros.false-raw) (sym c.names_distinct.ensures ∙ not-false _ c.if-not-names_distinct.false-raw) c.macros_body.ensures
