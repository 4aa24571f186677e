-- `bind::bind_variable`: past the table nothing is stored.
use Rattle.std.proofs.Common.{rules}
use Rattle.environments.proofs.bind.bind_variable.Statement.{statement}
use Rattle.environments.proofs.bind.bind_variable.Tie as tie
use Rattle.environments.specs.Bind.{bound}
use Rattle.environments.specs.BindLaws.{one-past, one-stored}

returns : tie.Need-returns-then-k-ge-VARIABLES
returns c =
    one-past c.args.k _ c.args.env.now c.if-k-ge-VARIABLES.true

put-requires : tie.Need-put-requires
put-requires c κs =
    search rules

returns-2 : tie.Need-returns
unfolding bound
returns-2 c =
    one-stored c.args.k _ c.args.env.now _ c.put.ensures

pub bind_variable_spec : {M : Type 1} → statement M
bind_variable_spec = tie.close (tie.spec returns put-requires returns-2)
