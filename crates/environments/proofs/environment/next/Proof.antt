-- `environment::next` from what its four calls ensure.
use Rattle.std.proofs.Common.{rules}
use Rattle.environments.proofs.environment.next.Statement.{statement}
use Rattle.environments.proofs.environment.next.Tie as tie
use Rattle.environments.specs.EntryLaws.{next_of, next-is}

within-requires : tie.Need-within-one-requires
within-requires c κs =
    search rules

within-requires-2 : tie.Need-within-two-requires
within-requires-2 c κs =
    search rules

rest-requires : tie.Need-rest-along-requires
rest-requires c κs =
    search rules

rest-requires-2 : tie.Need-rest-across-requires
rest-requires-2 c κs =
    search rules

returns : tie.Need-returns
unfolding next_of
returns c =
    let a = c.args in next-is a.work.now a.k a.x _ _ _ _ c.requires c.within-one.ensures c.within-two.ensures c.rest-along.ensures c.rest-across.ensures

pub next_spec : {M : Type 1} → statement M
next_spec =
    tie.close (tie.spec within-requires within-requires-2 rest-requires rest-requires-2 returns)
