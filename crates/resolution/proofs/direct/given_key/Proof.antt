-- `direct::given_key`: the tests of a binder's own name, then its key.
use borrow.Author.Rules.{rules}
use Rattle.resolution.proofs.direct.given_key.Statement.{statement}
use Rattle.resolution.proofs.direct.given_key.Tie as tie
use Rattle.resolution.specs.DirectLaws.{gives-number, gives-binding, gives-count, gives-newest, gives_key}

returns : tie.Need-returns-then-word-number
returns c =
    let a = c.args in
    gives-number a.work.now a.number a.at a.mark _ c.word.ensures c.if-word-number.true

returns-2 : tie.Need-returns-then-word-ne0
returns-2 c =
    let a = c.args in
    gives-binding a.work.now a.number a.at a.mark _ c.word-2.ensures c.if-word-ne0.true

returns-3 : tie.Need-returns-then-word-count_of
returns-3 c =
    let a = c.args in
    gives-count a.work.now a.number a.at a.mark _ _ c.word-3.ensures c.count_of.ensures c.if-word-count_of.true

returns-4 : tie.Need-returns-then-word-mark
returns-4 c =
    let a = c.args in
    gives-newest a.work.now a.number a.at a.mark _ c.word-4.ensures c.if-word-mark.true

returns-5 : tie.Need-returns
returns-5 c =
    let a = c.args in
    gives_key a.work.now a.number a.at a.mark _ _ _ _ _ _ c.word.ensures c.if-word-number.false c.word-2.ensures c.if-word-ne0.false c.word-3.ensures c.count_of.ensures c.if-word-count_of.false c.word-4.ensures c.if-word-mark.false c.word-5.ensures

pub given_key_spec : {M : Type 1} → statement M
given_key_spec =
    tie.close
    (tie.spec
    (λ c κs. search rules)  -- word-requires
    returns
    (λ c κs. search rules)  -- word-requires-2
    returns-2
    (λ c κs. search rules)  -- word-requires-3
    (λ c κs. search rules)  -- count-of-requires
    returns-3
    (λ c κs. search rules)  -- word-requires-4
    returns-4
    (λ c κs. search rules)  -- word-requires-5
    returns-5)
