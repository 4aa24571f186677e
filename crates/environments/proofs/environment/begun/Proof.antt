-- `environment::begun` by its definition.
use Rattle.environments.proofs.environment.begun.Statement.{statement}
use Rattle.environments.proofs.environment.begun.Tie as tie
use Rattle.std.proofs.Common.{refl}
use Rattle.environments.specs.Entries.{begun}

returns : tie.Need-returns
unfolding begun
returns c =
    refl

pub begun_spec : {M : Type 1} → statement M
begun_spec = tie.close (tie.spec returns)
