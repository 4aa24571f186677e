-- The tables have document 01's lengths, and any output fits.
use Rattle.std.proofs.Common.{rules}
use Rattle.filing.proofs.output.Goals as goal
use Rattle.filing.specs.Room.{output-told}

pub returns : goal.returns
returns c = rw c.unwrap_or.ensures (output-told _ _ _ _ _ _ _ _ c.file-written.ensures.output (search rules) (search rules) (search rules) (search rules) c.requires)
