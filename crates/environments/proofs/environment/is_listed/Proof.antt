-- `environment::is_listed`: the tag and depth of the template's cell, then the tag of the pattern's element.
use Rattle.std.proofs.Common.{arith, rules}
use Rattle.environments.proofs.environment.is_listed.Statement.{statement}
use Rattle.environments.proofs.environment.is_listed.Tie as tie
use mathlib.Core.Bool.{false≢true}
use Rattle.environments.specs.EntryLaws.{listed-is}

returns : tie.Need-returns-then-word-ne-VARIABLE
returns c =
    λ z. absurd (false≢true z)

returns-2 : tie.Need-returns-then-word-ne1
returns-2 c =
    λ z. absurd (false≢true z)

returns-3 : tie.Need-returns-then-k-ge-VARIABLES
returns-3 c =
    λ z. absurd (false≢true z)

shared-slice-read-q : tie.Need-bounds-table-k
shared-slice-read-q c =
    omega (arith, c.table-1.given, c.if-k-ge-VARIABLES.false)

returns-4 : tie.Need-returns
returns-4 c =
    listed-is c.args.work.now c.args.env.now c.args.e _ _ _ _ _ c.word.ensures c.if-word-ne-VARIABLE.false c.word-2.ensures c.if-word-ne1.false c.word-k.ensures c.reference-element.ensures c.word-3.ensures

pub is_listed_spec : {M : Type 1} → statement M
is_listed_spec =
    tie.close
    (tie.spec
    (λ c κs. search rules)  -- word-requires
    returns
    (λ c κs. search rules)  -- word-requires-2
    returns-2
    (λ c κs. search rules)  -- word-requires-3
    returns-3
    (λ c. search rules)  -- cast-q
    (λ c. search rules)  -- mul-q
    (λ c. search rules)  -- add-q
    (λ c. search rules)  -- mul-q-2
    shared-slice-read-q
    (λ c κs. search rules)  -- reference-requires
    (λ c κs. search rules)  -- word-requires-4
    returns-4)
