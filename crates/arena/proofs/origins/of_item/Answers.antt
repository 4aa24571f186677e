-- `origins::of_item`.
use Rattle.arena.specs.Origins.{origin-plain}
use Rattle.arena.proofs.origins.of_item.Goals as goal

pub returns : goal.returns
returns c = origin-plain _ _ c.requires.0
