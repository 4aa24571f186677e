-- The tables have document 01's lengths.
use Rattle.std.proofs.Common.{rules}
use Rattle.run_recipe.proofs.output.Goals as goal
use Rattle.run_recipe.specs.ValueLaws.{output-told}

pub returns : goal.returns
returns c =
    output-told _ _ _ _ _ _ _ _ _ c.value-answer.ensures (search rules) (search rules) (search rules) (search rules) c.line.ensures
