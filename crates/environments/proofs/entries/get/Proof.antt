-- `entries::get`: the four words of entry k.
use Rattle.std.proofs.Common.{refl, rules}
use Rattle.environments.proofs.entries.get.Statement.{statement}
use Rattle.environments.proofs.entries.get.Tie as tie
use Rattle.environments.specs.Columns.{entry_of}

returns : tie.Need-returns
unfolding entry_of
returns c =
    refl

pub get_spec : {M : Type 1} → statement M
get_spec =
    tie.close
    (tie.spec
    (λ c. search rules)  -- mul-i
    (λ c. search rules)  -- mul-t4
    (λ c. search rules)  -- shared-slice-read-t6
    (λ c. search rules)  -- add-t7
    (λ c. search rules)  -- mul-t8
    (λ c. search rules)  -- shared-slice-read-t10
    (λ c. search rules)  -- add-t11
    (λ c. search rules)  -- mul-t12
    (λ c. search rules)  -- shared-slice-read-t14
    (λ c. search rules)  -- add-t15
    (λ c. search rules)  -- mul-t16
    (λ c. search rules)  -- shared-slice-read-t18
    returns)
