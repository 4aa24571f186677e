-- `origins::produced`.
use Rattle.arena.specs.Origins.{origin-produced}
use Rattle.arena.proofs.origins.produced.Goals as goal

pub returns : goal.returns
returns c = origin-produced _
