-- `environment::within`: with a pattern and without.
use Rattle.std.proofs.Common.{rules}
use Rattle.environments.proofs.environment.within.Statement.{statement}
use Rattle.environments.proofs.environment.within.Tie as tie
use Rattle.environments.specs.EntryLaws.{within-flat, within-part}

returns : tie.Need-returns-then-q-eq0
returns c =
    let a = c.args in within-flat a.work.now a.q a.k a.list a.before c.if-q-eq0.true

reference-requires : tie.Need-reference-element-requires
reference-requires c κs =
    search rules

first-requires : tie.Need-first-first-requires
first-requires c κs =
    search rules

part-requires : tie.Need-part-requires
part-requires c κs =
    search rules

returns-2 : tie.Need-returns
returns-2 c =
    let a = c.args in within-part a.work.now a.q a.k a.list a.before _ _ _ c.if-q-eq0.false c.reference-element.ensures c.first-first.ensures c.part.ensures

pub within_spec : {M : Type 1} → statement M
within_spec =
    tie.close (tie.spec returns reference-requires first-requires part-requires returns-2)
