-- `environment::level`: below two indices and past them.
use Rattle.environments.proofs.environment.level.Statement.{statement}
use Rattle.environments.proofs.environment.level.Tie as tie
use Rattle.environments.specs.EntryLaws.{level-small, level-more}

returns : tie.Need-returns-then-d-lt2
returns c =
    level-small c.args.d c.if-d-lt2.true

returns-2 : tie.Need-returns
returns-2 c =
    level-more c.args.d c.if-d-lt2.false

pub level_spec : {M : Type 1} → statement M
level_spec = tie.close (tie.spec returns returns-2)
