-- `environment::taken`: past the table nothing is taken.
use Rattle.std.proofs.Common.{arith, rules}
use Rattle.environments.proofs.environment.taken.Statement.{statement}
use Rattle.environments.proofs.environment.taken.Tie as tie
use Rattle.environments.specs.EntryLaws.{level-most, taken_out, taken_in_lem}

returns : tie.Need-returns-then-k-ge-VARIABLES
returns c =
    taken_out c.args.env.now c.args.k c.args.d c.table-1.given c.if-k-ge-VARIABLES.true

add-result : tie.Need-overflow_add-result
add-result c =
    omega (arith, c.level.ensures, level-most c.args.d)

mul-result-2 : tie.Need-offset_bounds-table-k
mul-result-2 c =
    omega (arith, c.level.ensures, level-most c.args.d)

shared-slice-read-result : tie.Need-bounds-table-k
shared-slice-read-result c =
    omega (arith, c.level.ensures, level-most c.args.d, c.table-1.given)

returns-2 : tie.Need-returns
returns-2 c =
    taken_in_lem c.args.env.now c.args.k c.args.d _ c.level.ensures

pub taken_spec : {M : Type 1} → statement M
taken_spec =
    tie.close
    (tie.spec
    returns
    (λ c. search rules)  -- mul-result
    (λ c κs. search rules)  -- level-requires
    add-result
    mul-result-2
    shared-slice-read-result
    returns-2)
