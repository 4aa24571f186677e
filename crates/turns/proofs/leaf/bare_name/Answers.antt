-- `leaf::bare_name`, by what the name finds.
use borrow.Author.Rules.{rules}
use Rattle.arena.specs.Arena.{name_at}
use Rattle.turns.specs.LeafLaws.{found-by, nothing-by, name-nothing, name-macro, name-form, name-variable, name-operation}
use mathlib.Core.Path.{ap, sym, ◌∙◌}
use Rattle.resolution.specs.Names.{means_of, lookup_in}
use Rattle.turns.proofs.leaf.bare_name.Goals as goal

pub returns-in_default : goal.returns-in_default
returns-in_default c = let a = c.args in
    let found = lookup_in a.operations.now (name_at a.work.now a.node a.wrap) in
    name-nothing found a.reached a.core.now a.core.now _ (nothing-by found _ c.lookup.ensures c.in_default.is) c.refused.ensures

pub returns-in-Variable : goal.returns-in-Variable
returns-in-Variable c = let a = c.args in
    let found = lookup_in a.operations.now (name_at a.work.now a.node a.wrap) in
    name-variable found a.reached a.core.now _ _ _ (ap means_of (sym c.in-Variable.is) ∙ found-by found _ c.lookup.ensures _ c.in-Some.is) c.put_node.ensures

pub returns-in-Operation : goal.returns-in-Operation
returns-in-Operation c = let a = c.args in
    let found = lookup_in a.operations.now (name_at a.work.now a.node a.wrap) in
    name-operation found a.reached a.core.now _ _ _ (ap means_of (sym c.in-Operation.is) ∙ found-by found _ c.lookup.ensures _ c.in-Some.is) c.put_node-in-Operation.ensures

pub returns-in-Macro : goal.returns-in-Macro
returns-in-Macro c = let a = c.args in
    let found = lookup_in a.operations.now (name_at a.work.now a.node a.wrap) in
    name-macro found a.reached a.core.now a.core.now _ _ (ap means_of (sym c.in-Macro.is) ∙ found-by found _ c.lookup.ensures _ c.in-Some.is) c.refused-in-Macro.ensures

pub returns-in-Form : goal.returns-in-Form
returns-in-Form c = let a = c.args in
    let found = lookup_in a.operations.now (name_at a.work.now a.node a.wrap) in
    name-form found a.reached a.core.now a.core.now _ _ (ap means_of (sym c.in-Form.is) ∙ found-by found _ c.lookup.ensures _ c.in-Some.is) c.refused-in-Form.ensures
