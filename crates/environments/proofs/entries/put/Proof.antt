-- `entries::put`: four stores.
use Rattle.std.proofs.Common.{arith, length-set, rules}
use Rattle.environments.proofs.entries.put.Statement.{statement}
use Rattle.environments.proofs.entries.put.Tie as tie
use Rattle.environments.specs.ColumnLaws.{entry-stored}

slice-write-env-2 : tie.Need-bounds-env-i-2
slice-write-env-2 c =
    simp length-set (omega arith)

slice-write-env-3 : tie.Need-bounds-env-i-3
slice-write-env-3 c =
    simp length-set (omega arith)

slice-write-env-4 : tie.Need-bounds-env-i-4
slice-write-env-4 c =
    simp length-set (omega arith)

returns : tie.Need-returns
returns c =
    entry-stored c.args.env.now c.args.k c.args.x c.requires.0 c.requires.1

pub put_spec : {M : Type 1} → statement M
put_spec =
    tie.close
    (tie.spec
    (λ c. search rules)  -- mul-i
    (λ c. search rules)  -- mul-env
    (λ c. search rules)  -- slice-write-env
    (λ c. search rules)  -- add-env
    (λ c. search rules)  -- mul-env-2
    slice-write-env-2
    (λ c. search rules)  -- add-env-2
    (λ c. search rules)  -- mul-env-3
    slice-write-env-3
    (λ c. search rules)  -- add-env-3
    (λ c. search rules)  -- mul-env-4
    slice-write-env-4
    (λ c. search rules)  -- same-length
    returns)
