-- `names::lookup`: the binding by its key, else what the unbound name means.
use Rattle.std.proofs.Math.Path.{sym}
use Rattle.std.proofs.Common.{◌∙◌}
use Rattle.arena.specs.NodeLaws.{name_at-number}
use Rattle.arena.specs.Arena.{name_at}
use Rattle.resolution.specs.NameLaws.{lookup-none, lookup-variable, lookup-macro}
use Rattle.resolution.proofs.names.lookup.Goals as goal

pub returns-then-b-eq0 : goal.returns-then-b-eq0
returns-then-b-eq0 c =
    let a = c.args in
    let x = name_at a.work.now a.node a.w in
    lookup-none a.operations.now x _ c.binding_of-b.ensures c.if-b-eq0.true _ (c.number_of.ensures ∙ sym (name_at-number a.work.now a.node a.w)) _ c.unbound.ensures

pub returns-then-b-eq1 : goal.returns-then-b-eq1
returns-then-b-eq1 c =
    let a = c.args in
    lookup-variable a.operations.now (name_at a.work.now a.node a.w) _ c.binding_of-b.ensures c.if-b-eq0.false c.if-b-eq1.true

pub returns : goal.returns
returns c =
    let a = c.args in
    lookup-macro a.operations.now (name_at a.work.now a.node a.w) _ c.binding_of-b.ensures c.if-b-eq0.false c.if-b-eq1.false
