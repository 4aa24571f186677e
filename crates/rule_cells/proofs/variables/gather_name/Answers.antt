-- `variables::gather_name`: a variable is added, another name is passed over.
use Rattle.rule_cells.specs.GatherLaws.{gathered-no, gathered-one}
use Rattle.arena.specs.Arena.{name_at}
use mathlib.Core.Path.{sym, ◌∙◌}
use Rattle.rule_cells.specs.Scopes.{dots_of, literals_of}
use Rattle.rule_cells.proofs.variables.gather_name.Goals as goal

pub returns-then-not-is_variable : goal.returns-then-not-is_variable
returns-then-not-is_variable c =
    let a = c.args in
    let no = sym c.is_variable.ensures ∙ c.if-not-is_variable.true in
    (gathered-no a.work.now a.form.wrap a.node a.n a.vars.now (dots_of a.work.now a.form) (literals_of a.work.now a.form) a.d (name_at a.work.now a.node a.form.wrap) no c.requires.1)

pub add-requires : goal.add-requires
add-requires c =
    (c.requires.0, c.requires.1)

pub returns : goal.returns
returns c =
    let a = c.args in
    let yes = sym c.is_variable.ensures ∙ c.if-not-is_variable.false in
    gathered-one a.work.now a.form.wrap a.node a.n a.vars.now (dots_of a.work.now a.form) (literals_of a.work.now a.form) a.d (name_at a.work.now a.node a.form.wrap) c.add.new.vars c.add.result yes c.add.ensures
