-- `origins::number`.
use Rattle.arena.specs.Arena.{origin_name}
use Rattle.std.proofs.Common.{refl}
use Rattle.arena.proofs.origins.number.Goals as goal

pub returns : goal.returns
unfolding origin_name
returns c = refl
