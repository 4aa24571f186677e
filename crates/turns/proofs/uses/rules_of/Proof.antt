-- `uses::rules_of`.
use borrow.Author.Rules.{rules}
use Rattle.turns.proofs.uses.rules_of.Statement.{statement}
use Rattle.turns.proofs.uses.rules_of.Tie as tie
use Rattle.turns.specs.UseLaws.{rules-known, rules-unknown}

mul-result : tie.Need-offset_bounds-macros-n
mul-result c =
    search rules

shared-slice-read-result : tie.Need-bounds-macros-n
shared-slice-read-result c =
    search rules

returns : tie.Need-returns-then-n-count
returns c =
    rules-known c.args.macros.now c.args.count c.args.n c.if-n-count.true

returns-2 : tie.Need-returns
returns-2 c =
    rules-unknown c.args.macros.now c.args.count c.args.n c.if-n-count.false

pub rules_of_spec : {M : Type 1} → statement M
rules_of_spec = tie.close (tie.spec mul-result shared-slice-read-result returns returns-2)
