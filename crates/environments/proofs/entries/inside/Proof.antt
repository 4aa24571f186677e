-- `entries::inside`: by level.
use Rattle.std.proofs.Common.{refl, rules, ne_eqb}
use Rattle.environments.proofs.entries.inside.Statement.{statement}
use Rattle.environments.proofs.entries.inside.Tie as tie
use Rattle.environments.specs.Columns.{inside}

cast-at : tie.Need-overflow_cast-x
cast-at c =
    search rules

at-requires : tie.Need-at-requires
at-requires c κs =
    search rules

returns : tie.Need-returns-then-x-eq1
unfolding inside
returns c =
    rw (c.at.ensures, c.if-x-eq1.true) refl

returns-2 : tie.Need-returns
unfolding inside
returns-2 c =
    rw (ne_eqb c.args.x.level 1 c.if-x-eq1.false) refl

pub inside_spec : {M : Type 1} → statement M
inside_spec = tie.close (tie.spec cast-at at-requires returns returns-2)
