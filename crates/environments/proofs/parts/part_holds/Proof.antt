-- `parts::part_holds`: a variable is compared in place.
use Rattle.std.proofs.Common.{rules}
use Rattle.environments.proofs.parts.part_holds.Statement.{statement}
use Rattle.environments.proofs.parts.part_holds.Tie as tie
use Rattle.environments.specs.PartLaws.{holds-variable}

word-requires : tie.Need-word-requires
word-requires c κs =
    search rules

word-requires-2 : tie.Need-word-requires-then-word-eq-VARIABLE
word-requires-2 c κs =
    search rules

returns : tie.Need-returns-then-word-eq-VARIABLE
returns c =
    let a = c.args in holds-variable a.work.now a.p _ c.word.ensures a.k _ c.if-word-eq-VARIABLE.true c.word-then-word-eq-VARIABLE.ensures

holds-requires : tie.Need-holds-requires
holds-requires c κs =
    search rules

returns-2 : tie.Need-returns
returns-2 c =
    search rules

pub part_holds_spec : {M : Type 1} → statement M
part_holds_spec =
    tie.close (tie.spec word-requires word-requires-2 returns holds-requires returns-2)
