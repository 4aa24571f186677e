-- `start::run`: the arena, then the cycle from the start.
use borrow.Author.Rules.{rules}
use Rattle.expander.specs.StartLaws.{start_fits, start-lending, start-placed, start-ready, start-expanded}
use Rattle.expander.proofs.start.run.Goals as goal

pub lay_out-top-requires : goal.lay_out-top-requires
lay_out-top-requires c = let a = c.args in
    let l = c.requires.0 in
    (l.begun.layout, start_fits a.items.now a.work.now a.core.now a.operations.now a.fuel l)

pub expression-requires : goal.expression-requires
expression-requires c = let a = c.args in
    let l = c.requires.0 in
    let second = c.element-body.ensures in
    let from_is = c.start-from.ensures in (
      start-lending a.items.now a.work.now a.core.now a.operations.now a.fuel l,
      start-placed a.items.now a.work.now a.core.now a.operations.now a.fuel l _ _ _ c.lay_out-top.ensures second _ from_is,
      start-ready a.items.now a.work.now a.core.now a.operations.now a.fuel l _ _ _ c.lay_out-top.ensures second _ from_is _ c.lay_out-top.auto.work c.requires.1,
    )

pub returns : goal.returns
returns c = let a = c.args in
    let laid = c.lay_out-top.ensures in
    let second = c.element-body.ensures in
    let from_is = c.start-from.ensures in
    start-expanded a.items.now a.work.now a.core.now a.operations.now a.fuel c.requires.0 _ _ _ laid second _ from_is _ _ _ c.expression.ensures
