-- A number beyond words gets no cell, any other the next one.
use borrow.Author.Rules.{rules}
use Rattle.runner.proofs.rows.extend.Statement.{statement}
use Rattle.runner.proofs.rows.extend.Tie as tie
use native.Mathlib.Omega.{arith}
use Rattle.runner.specs.ExtendedLaws.{extended-cell, extended-beyond}

value-at-requires : tie.Need-value_at-v-requires
value-at-requires c κs =
    omega (arith, c.requires.values)

put-cell-requires : tie.Need-put_cell-requires
put-cell-requires c κs =
    omega (arith, c.requires.room)

cast-t13 : tie.Need-overflow_cast-result
cast-t13 c =
    record { fits = omega (arith, c.requires.numbered) }

returns-2 : tie.Need-returns
returns-2 c =
    rw (c.put_cell.ensures, c.value_at-v.ensures) (extended-cell _ _ _ _ _ c.requires)

pub extend_spec : {M : Type 1} → statement M
extend_spec =
    tie.close
    (tie.spec
    (λ c. extended-beyond _ _ _ _ _ c.requires (search rules))  -- returns
    value-at-requires
    (λ c. search rules)  -- cast-put-cell
    put-cell-requires
    (λ c. search rules)  -- add-t14
    cast-t13
    (λ c. search rules)  -- add-t15
    (λ c. search rules)  -- same-length
    returns-2)
