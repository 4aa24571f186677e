-- `blocks::at`: past the end there is no word.
use Rattle.std.proofs.Common.{rules}
use Rattle.environments.proofs.blocks.at.Statement.{statement}
use Rattle.environments.proofs.blocks.at.Tie as tie
use Rattle.environments.specs.BlockLaws.{word-past}

mul-result : tie.Need-offset_bounds-work-i
mul-result c =
    search rules

shared-slice-read-result : tie.Need-bounds-work-i
shared-slice-read-result c =
    search rules

returns : tie.Need-returns-then-i-work
returns c =
    search rules

returns-2 : tie.Need-returns
returns-2 c =
    word-past c.args.work.now c.args.i c.if-i-work.false

pub at_spec : {M : Type 1} → statement M
at_spec = tie.close (tie.spec mul-result shared-slice-read-result returns returns-2)
