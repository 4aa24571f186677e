-- `environment::get`: the seven words of entry k.
use Rattle.std.proofs.Common.{rules}
use Rattle.environments.proofs.environment.get.Statement.{statement}
use Rattle.environments.proofs.environment.get.Tie as tie
use Rattle.environments.specs.EntryLaws.{entry-is}

returns : tie.Need-returns
returns c =
    entry-is c.args.env.now c.args.k

pub get_spec : {M : Type 1} → statement M
get_spec =
    tie.close
    (tie.spec
    (λ c. search rules)  -- mul-i
    (λ c. search rules)  -- mul-t4
    (λ c. search rules)  -- shared-slice-read-t6
    (λ c. search rules)  -- add-t7
    (λ c. search rules)  -- mul-t8
    (λ c. search rules)  -- shared-slice-read-t10
    (λ c. search rules)  -- add-t11
    (λ c. search rules)  -- mul-t12
    (λ c. search rules)  -- shared-slice-read-t14
    (λ c. search rules)  -- add-t15
    (λ c. search rules)  -- mul-t16
    (λ c. search rules)  -- shared-slice-read-t18
    (λ c. search rules)  -- add-t19
    (λ c. search rules)  -- mul-t20
    (λ c. search rules)  -- shared-slice-read-t22
    (λ c. search rules)  -- add-t23
    (λ c. search rules)  -- mul-t24
    (λ c. search rules)  -- shared-slice-read-t26
    (λ c. search rules)  -- add-t27
    (λ c. search rules)  -- mul-t28
    (λ c. search rules)  -- shared-slice-read-t30
    returns)
