-- `environment::put`: seven stores, which keep the length.
use Rattle.std.proofs.Common.{arith, length-set, rules}
use Rattle.environments.proofs.environment.put.Statement.{statement}
use Rattle.environments.proofs.environment.put.Tie as tie
use Rattle.environments.specs.EntryLaws.{word_of, place, storing, stored}

returns : tie.Need-returns
unfolding word_of place storing
returns c =
    stored c.args.k c.args.x c.args.env.now c.requires.1 c.requires.0

pub put_spec : {M : Type 1} → statement M
put_spec =
    tie.close
    (tie.spec
    (λ c. search rules)  -- mul-i
    (λ c. search rules)  -- mul-env
    (λ c. search rules)  -- slice-write-env
    (λ c. search rules)  -- add-env
    (λ c. search rules)  -- mul-env-2
    (λ c. simp length-set (omega arith))  -- slice-write-env-2
    (λ c. search rules)  -- add-env-2
    (λ c. search rules)  -- mul-env-3
    (λ c. simp length-set (omega arith))  -- slice-write-env-3
    (λ c. search rules)  -- add-env-3
    (λ c. search rules)  -- mul-env-4
    (λ c. simp length-set (omega arith))  -- slice-write-env-4
    (λ c. search rules)  -- add-env-4
    (λ c. search rules)  -- mul-env-5
    (λ c. simp length-set (omega arith))  -- slice-write-env-5
    (λ c. search rules)  -- add-env-5
    (λ c. search rules)  -- mul-env-6
    (λ c. simp length-set (omega arith))  -- slice-write-env-6
    (λ c. search rules)  -- add-env-6
    (λ c. search rules)  -- mul-env-7
    (λ c. simp length-set (omega arith))  -- slice-write-env-7
    (λ c. search rules)  -- same-length
    returns)
