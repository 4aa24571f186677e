-- `names::agrees`: the same binding, or no binding and equal numbers.
use Rattle.std.proofs.Common.{sym, ◌∙◌, ne_eqb}
use Rattle.arena.specs.Arena.{name_at}
use Rattle.arena.specs.NodeLaws.{name_at-number}
use Rattle.resolution.specs.NameLaws.{agree-bindings, agree-bound, agree-numbers}
use Rattle.resolution.proofs.names.agrees.Goals as goal

pub returns-then-b-ne0 : goal.returns-then-b-ne0
returns-then-b-ne0 c =
    let a = c.args in
    rw (ne_eqb _ _ c.if-b-ne0.true) (agree-bound a.number a.binding (name_at a.work.now a.node a.w) _ c.binding_of-b.ensures c.if-b-binding.true c.if-b-ne0.true)

pub returns-else-b-ne0 : goal.returns-else-b-ne0
returns-else-b-ne0 c =
    let a = c.args in
    agree-numbers a.number a.binding (name_at a.work.now a.node a.w) _ c.binding_of-b.ensures c.if-b-binding.true c.if-b-ne0.false _
    (c.number_of.ensures ∙ sym (name_at-number a.work.now a.node a.w))

pub returns-else-b-binding : goal.returns-else-b-binding
returns-else-b-binding c =
    let a = c.args in
    rw (ne_eqb _ _ c.if-b-binding.false) (agree-bindings a.number a.binding (name_at a.work.now a.node a.w) _ c.binding_of-b.ensures c.if-b-binding.false)
