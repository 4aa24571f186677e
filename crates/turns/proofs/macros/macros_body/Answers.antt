-- `macros::macros_body`: the names' binders, then all rules.
use borrow.Author.Rules.{rules}
use Rattle.turns.specs.MacroTurns.{is_inside}
use Rattle.turns.specs.MacroTurnLaws.{macros-all-names, macros-space, macros-few, macros-ask, macros-bad, macros-known}
use Rattle.turns.proofs.macros.macros_body.Goals as goal

pub bind-scope-requires : goal.bind-scope-requires
bind-scope-requires c = let a = c.args in
    (macros-all-names a.work.now a.macros.now a.form.node a.form.wrap (is_inside a.stand) a.reached c.requires.0 c.requires.1.0 c.requires.1.1, macros-space a.work.now a.macros.now a.form.node a.form.wrap (is_inside a.stand) a.reached c.requires.0 c.requires.1.0 c.requires.1.1)

pub all_macros-requires : goal.all_macros-requires
all_macros-requires c = let a = c.args in
    macros-ask a.work.now a.macros.now a.form.node a.form.wrap (is_inside a.stand) a.reached c.requires.0 c.requires.1.0 c.requires.1.1 _ _ c.element-list.ensures c.count-count.ensures c.bind-scope.new.work _ _ _ c.bind-scope.ensures c.rules_wrap-within.ensures c.bind-scope.auto.work

pub returns-in_default : goal.returns-in_default
returns-in_default c = let a = c.args in
    (macros-bad a.work.now a.macros.now a.form.node a.form.wrap (is_inside a.stand) a.reached c.requires.0 c.requires.1.0 c.requires.1.1 _ _ c.element-list.ensures c.count-count.ensures c.bind-scope.new.work _ _ _ c.bind-scope.ensures c.rules_wrap-within.ensures c.bind-scope.auto.work c.all_macros.new.work c.all_macros.new.macros _ c.all_macros.ensures c.in_default.is, c.refused.ensures)

pub grown-requires : goal.grown-requires
grown-requires c = let a = c.args in
    macros-few a.work.now a.macros.now a.form.node a.form.wrap (is_inside a.stand) a.reached c.requires.0 c.requires.1.0 c.requires.1.1 _ _ c.element-list.ensures c.count-count.ensures

pub returns : goal.returns
returns c = let a = c.args in
    macros-known a.work.now a.macros.now a.form.node a.form.wrap (is_inside a.stand) a.reached c.requires.0 c.requires.1.0 c.requires.1.1 _ _ c.element-list.ensures c.count-count.ensures c.bind-scope.new.work _ _ _ c.bind-scope.ensures c.rules_wrap-within.ensures c.bind-scope.auto.work c.all_macros.new.work c.all_macros.new.macros _ c.all_macros.ensures _ _ c.in-Some.is c.element-body.ensures _ c.grown.ensures
