-- `entries::found`: by level.
use Rattle.std.proofs.Common.{refl, rules, ne_eqb}
use Rattle.environments.proofs.entries.found.Statement.{statement}
use Rattle.environments.proofs.entries.found.Tie as tie
use Rattle.environments.specs.Columns.{found}

cast-at : tie.Need-overflow_cast-x
cast-at c =
    search rules

at-requires : tie.Need-at-requires
at-requires c κs =
    search rules

returns : tie.Need-returns-then-x-eq1
unfolding found
returns c =
    rw (c.at.ensures, c.if-x-eq1.true) refl

returns-2 : tie.Need-returns
unfolding found
returns-2 c =
    rw (ne_eqb c.args.x.level 1 c.if-x-eq1.false) refl

pub found_spec : {M : Type 1} → statement M
found_spec = tie.close (tie.spec cast-at at-requires returns returns-2)
