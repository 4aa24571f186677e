-- Any output has room.
use Rattle.run_recipe.proofs.line.line.Goals as goal
use Rattle.run_recipe.specs.Line.{laid-some, laid-printed}

pub unwrap-requires : goal.unwrap-requires
unwrap-requires c = laid-some c.laid.ensures c.requires

pub returns : goal.returns
returns c = laid-printed c.laid.ensures _ c.unwrap.ensures
