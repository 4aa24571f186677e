-- Any line has room.
use Rattle.compare_expansions.proofs.line.line.Goals as goal
use Rattle.compare_expansions.specs.Line.{line-printed, line-fits}

pub returns-in-Some : goal.returns-in-Some
returns-in-Some c = line-printed _ _ _ _ c.requires c.laid.ensures _ c.in-Some.is

pub returns-in-None : goal.returns-in-None
returns-in-None c = absurd (line-fits _ _ _ _ c.requires c.laid.ensures c.in-None.is)
