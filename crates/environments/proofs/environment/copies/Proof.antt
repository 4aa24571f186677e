-- `environment::copies`: what the ellipsis takes of the list; past the table, and where no ellipsis is left, nothing.
use Rattle.std.proofs.Common.{refl, arith, rules}
use Rattle.environments.proofs.environment.copies.Statement.{statement}
use Rattle.environments.proofs.environment.copies.Tie as tie
use Rattle.environments.specs.EntryLaws.{next-most, copies-out, copies-flat, copies-in}

returns : tie.Need-returns-then-k-ge-VARIABLES
returns c =
    let a = c.args in
    copies-out a.work.now a.env.now a.k a.d c.table-1.given c.if-k-ge-VARIABLES.true

add-i : tie.Need-overflow_add-i
add-i c =
    omega (arith, c.next_level.ensures, next-most c.args.d, c.table-1.given, c.if-k-ge-VARIABLES.false)

add-ellipsis : tie.Need-overflow_add-ellipsis
add-ellipsis c =
    omega (arith, c.next_level.ensures, next-most c.args.d, c.table-1.given, c.if-k-ge-VARIABLES.false)

mul-ellipsis : tie.Need-offset_bounds-table-i
mul-ellipsis c =
    omega (arith, c.next_level.ensures, next-most c.args.d, c.table-1.given, c.if-k-ge-VARIABLES.false)

shared-slice-read-ellipsis : tie.Need-bounds-table-i
shared-slice-read-ellipsis c =
    omega (arith, c.next_level.ensures, next-most c.args.d, c.table-1.given, c.if-k-ge-VARIABLES.false)

returns-2 : tie.Need-returns-then-ellipsis-eq0
returns-2 c =
    let a = c.args in
    copies-flat a.work.now a.env.now a.k a.d _ _ c.next_level.ensures refl c.if-ellipsis-eq0.true

mul-share : tie.Need-offset_bounds-table-i-2
mul-share c =
    omega (arith, c.next_level.ensures, next-most c.args.d, c.table-1.given, c.if-k-ge-VARIABLES.false)

shared-slice-read-share : tie.Need-bounds-table-i-2
shared-slice-read-share c =
    omega (arith, c.next_level.ensures, next-most c.args.d, c.table-1.given, c.if-k-ge-VARIABLES.false)

returns-3 : tie.Need-returns
returns-3 c =
    let a = c.args in
    copies-in a.work.now a.env.now a.k a.d _ _ c.next_level.ensures refl c.if-ellipsis-eq0.false _ c.share.ensures

pub copies_spec : {M : Type 1} → statement M
copies_spec =
    tie.close
    (tie.spec
    returns
    (λ c. search rules)  -- mul-i
    (λ c κs. search rules)  -- next-level-requires
    add-i
    add-ellipsis
    mul-ellipsis
    shared-slice-read-ellipsis
    returns-2
    mul-share
    shared-slice-read-share
    (λ c κs. search rules)  -- share-requires
    returns-3)
