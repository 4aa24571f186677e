use Rattle.std.proofs.Common.{Ok, refl, ◌∙◌, arith}
use Rattle.environments.specs.PartLaws.{tag-falls}
use Rattle.environments.specs.LengthLaws.{differ-passed, deeper-most, drives-none, drives-few, drives-one, drives-both, drives-differ}
use Rattle.environments.proofs.lengths.+drivers.Goals as goal

pub returns-then-d-j : goal.returns-then-d-j
returns-then-d-j t c =
    let a = c.args in
    drives-few a.work.now a.env.now a.t _ c.word-tag.ensures a.j _ _ c.in-1.is c.word-d.ensures c.if-d-j.true

pub returns-else-d-j : goal.returns-else-d-j
returns-else-d-j t c =
    let a = c.args in
    λ w. c.also.ensures ∙ drives-one a.work.now a.env.now a.t _ c.word-tag.ensures a.j (Ok a.before) _ _ _ c.in-1.is c.word-d.ensures c.word-k.ensures (omega arith) c.copies.ensures w

pub returns-in_default : goal.returns-in_default
returns-in_default t c =
    let a = c.args in
    drives-none a.work.now a.env.now a.t _ c.word-tag.ensures a.j _ (λ z. omega arith) (λ z. omega arith) (λ z. omega arith)

pub returns-in_default-2 : goal.returns-in_default-2
returns-in_default-2 t c =
    let a = c.args in
    drives-none a.work.now a.env.now a.t _ c.word-tag.ensures a.j _ (λ z. omega arith) (λ z. omega arith) (λ z. omega arith)

pub deeper-requires : goal.deeper-requires
deeper-requires t c =
    let a = c.args in
    let l = tag-falls a.work.now a.t _ c.word-tag.ensures 3 _ (λ z. omega arith) c.reference-head.ensures in
    omega (arith, l, c.requires)

pub drivers-requires : goal.drivers-requires
drivers-requires t c =
    let a = c.args in
    let l = tag-falls a.work.now a.t _ c.word-tag.ensures 3 _ (λ z. omega arith) c.reference-head.ensures in
    (omega (arith, l, c.decreases), omega (arith, l, c.requires, c.deeper.ensures, deeper-most c.word-tag.result a.j))

pub drivers-requires-in-6 : goal.drivers-requires-in-6
drivers-requires-in-6 t c =
    let a = c.args in
    let l = tag-falls a.work.now a.t _ c.word-tag.ensures 2 _ (λ z. omega arith) c.reference-rest.ensures in
    (omega (arith, l, c.decreases), omega (arith, l, c.requires))

pub returns-in_err-first-in-6 : goal.returns-in_err-first-in-6
returns-in_err-first-in-6 t c =
    let a = c.args in
    rw (differ-passed c.from_residual.result c.from_residual.ensures.0) (drives-differ a.work.now a.env.now a.t _ c.word-tag.ensures a.j _ _ _ (omega arith) (omega arith) c.deeper.ensures c.reference-head.ensures refl _ _ c.in_err-first-in-6.ensures)

pub returns-in_ok-first-in-6 : goal.returns-in_ok-first-in-6
returns-in_ok-first-in-6 t c =
    let a = c.args in
    drives-both a.work.now a.env.now a.t _ c.word-tag.ensures a.j _ _ _ (omega arith) (omega arith) c.deeper.ensures c.reference-head.ensures c.reference-rest.ensures _ _ _ c.in_ok-first-in-6.ensures c.drivers-in-6.ensures
