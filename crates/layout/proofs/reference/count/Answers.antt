-- `count` counts one reference.
use Rattle.layout.specs.Counts.{counted-one}
use Rattle.layout.proofs.reference.count.Goals as goal

pub returns : goal.returns
returns c = counted-one c.args.counts.now c.args.k c.requires.0
