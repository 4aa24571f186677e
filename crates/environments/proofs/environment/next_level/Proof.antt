-- `environment::next_level`: the first list, or the second.
use Rattle.environments.proofs.environment.next_level.Statement.{statement}
use Rattle.environments.proofs.environment.next_level.Tie as tie
use Rattle.environments.specs.EntryLaws.{level-first, level-second}

returns : tie.Need-returns-then-d-eq0
returns c =
    let a = c.args in level-first a.d c.if-d-eq0.true

returns-2 : tie.Need-returns
returns-2 c =
    let a = c.args in level-second a.d c.if-d-eq0.false

pub next_level_spec : {M : Type 1} → statement M
next_level_spec = tie.close (tie.spec returns returns-2)
