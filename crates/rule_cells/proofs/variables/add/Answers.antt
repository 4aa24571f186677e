-- `variables::add`: a variable that breaks a limit is refused, any other goes behind the others.
use Rattle.rule_cells.specs.VariableLaws.{add-one, add-deep, add-many, add_twice, found, found-none}
use Rattle.std.proofs.Common.{sym, ◌∙◌, arith, length-set}
use Rattle.rule_cells.proofs.variables.add.Goals as goal

pub returns-then-d-gt-DEPTH : goal.returns-then-d-gt-DEPTH
returns-then-d-gt-DEPTH c =
    let a = c.args in add-deep a.work.now a.w a.vars.now a.n a.node a.d (omega (arith, c.if-d-gt-DEPTH.true))

pub returns-then-n-ge-VARIABLES : goal.returns-then-n-ge-VARIABLES
returns-then-n-ge-VARIABLES c =
    let a = c.args in add-many a.work.now a.w a.vars.now a.n a.node a.d c.if-n-ge-VARIABLES.true

pub find-requires : goal.find-requires
find-requires c =
    (c.requires.1.most, c.requires.0)

pub returns-then-is_some : goal.returns-then-is_some
returns-then-is_some c =
    let a = c.args in
    let f = found c.find.result _ c.find.ensures (sym c.is_some.ensures ∙ c.if-is_some.true) in
    add_twice a.work.now a.w a.vars.now a.n a.node a.d f.0 f.1

pub bounds-vars-at-2 : goal.bounds-vars-at-2
bounds-vars-at-2 c =
    simp length-set (omega (arith, c.requires.0))

pub returns : goal.returns
returns c =
    let a = c.args in
    add-one a.work.now a.w a.vars.now a.n a.node a.d (omega (arith, c.requires.0)) c.requires.1 (omega arith) (omega arith) (found-none c.find.result _ c.find.ensures (sym c.is_some.ensures ∙ c.if-is_some.false))
