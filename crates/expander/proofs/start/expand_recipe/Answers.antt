-- `start::expand_recipe` lends the run a table with a word for each macro that its items and its fuel allow.
use borrow.Author.Rules.{rules}
use native.Mathlib.Omega.{arith}
use Rattle.recipe.specs.Table.{item_count}
use Rattle.expander.specs.StartLaws.{start-most}
use Rattle.expander.proofs.start.expand_recipe.Goals as goal

pub run-requires : goal.run-requires
unfolding item_count
run-requires c = (c.requires, omega (arith, c.if-items-fuel.true))

pub run-requires-2 : goal.run-requires-2
run-requires-2 c = let a = c.args in
    (c.requires, omega (arith, start-most a.items.now a.work.now a.core.now a.operations.now a.fuel c.requires))
