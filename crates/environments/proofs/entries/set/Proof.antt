-- `entries::set`: stored where there was none.
use Rattle.std.proofs.Common.{◌≡◌, sym, ap, ◌∙◌, rules}
use Rattle.environments.proofs.entries.set.Statement.{statement}
use Rattle.environments.proofs.entries.set.Tie as tie
use Rattle.environments.specs.declared.entries.Entry.{Entry}
use Rattle.environments.specs.ColumnLaws.{set_past, set-kept, set-stored}

returns : tie.Need-returns-then-k-ge-VARIABLES
returns c =
    set_past c.args.k c.args.x c.args.env.now c.if-k-ge-VARIABLES.true

get-requires : tie.Need-get-old-requires
get-requires c κs =
    search rules

put-requires : tie.Need-put-requires
put-requires c κs =
    search rules

returns-3 : tie.Need-returns
returns-3 c =
    let args' = c.args in
    set-stored args'.k args'.x args'.env.now _ (sym (ap (λ (y : Entry). y.level) c.get-old.ensures) ∙ search rules) c.put.ensures

pub set_spec : {M : Type 1} → statement M
set_spec =
    tie.close
    (tie.spec
    returns
    get-requires
    (λ c. let taken : (c.get-old.result.level ≡ 0 → ⊥) = search rules in set-kept c.args.k c.args.x c.args.env.now (λ z. taken (ap (λ (y : Entry). y.level) c.get-old.ensures ∙ z)))  -- returns-2
    put-requires
    returns-3)
