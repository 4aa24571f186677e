use Rattle.std.proofs.Common.{◌∙◌, arith}
use Rattle.environments.specs.PartLaws.{tag-falls, holds-variable, holds-none, holds-head, holds-tail}
use Rattle.environments.proofs.parts.+holds.Goals as goal

pub returns-in-1 : goal.returns-in-1
returns-in-1 t c =
    let a = c.args in
    holds-variable a.work.now a.p _ c.word.ensures a.k _ c.in-1.is c.word-in-1.ensures

pub returns-in_default : goal.returns-in_default
returns-in_default t c =
    let a = c.args in
    holds-none a.work.now a.p _ c.word.ensures a.k (λ z. omega arith) (λ z. omega arith) (λ z. omega arith)

pub returns-in_default-2 : goal.returns-in_default-2
returns-in_default-2 t c =
    let a = c.args in
    holds-none a.work.now a.p _ c.word.ensures a.k (λ z. omega arith) (λ z. omega arith) (λ z. omega arith)

pub holds-requires : goal.holds-requires
holds-requires t c =
    let a = c.args in
    let l = tag-falls a.work.now a.p _ c.word.ensures 3 _ (λ z. omega arith) c.reference-head.ensures in
    (omega (arith, l, c.decreases), tt)

pub returns-then-holds : goal.returns-then-holds
returns-then-holds t c =
    let a = c.args in
    c.if-holds.true ∙ holds-head a.work.now a.p _ c.word.ensures a.k _ _ (omega arith) (omega arith) c.reference-head.ensures c.holds.ensures c.if-holds.true

pub holds-requires-else-holds : goal.holds-requires-else-holds
holds-requires-else-holds t c =
    let a = c.args in
    let l = tag-falls a.work.now a.p _ c.word.ensures 2 _ (λ z. omega arith) c.reference-tail.ensures in
    (omega (arith, l, c.decreases), tt)

pub returns-else-holds : goal.returns-else-holds
returns-else-holds t c =
    let a = c.args in
    holds-tail a.work.now a.p _ c.word.ensures a.k _ _ (omega arith) (omega arith) c.reference-head.ensures c.holds.ensures _ _ c.if-holds.false c.reference-tail.ensures c.holds-else-holds.ensures
