use Rattle.std.proofs.Common.{arith}
use Rattle.environments.specs.PartLaws.{tag-falls}
use Rattle.environments.specs.BindLaws.{list-none, list-variable, list-both}
use Rattle.environments.proofs.bind.+bind_list.Goals as goal

pub returns-in-1 : goal.returns-in-1
returns-in-1 t c =
    let a = c.args in
    list-variable a.work.now a.p _ c.word-tag.ensures a.env.now a.list a.first a.second _ _ c.in-1.is c.word-k.ensures c.bind_variable.ensures

pub returns-then-tag-lt6 : goal.returns-then-tag-lt6
returns-then-tag-lt6 t c =
    let a = c.args in
    list-none a.work.now a.p _ c.word-tag.ensures a.env.now a.list a.first a.second (λ z. omega arith) (λ z. omega arith) (λ z. omega arith)

pub returns-else-tag-lt8 : goal.returns-else-tag-lt8
returns-else-tag-lt8 t c =
    let a = c.args in
    list-none a.work.now a.p _ c.word-tag.ensures a.env.now a.list a.first a.second (λ z. omega arith) (λ z. omega arith) (λ z. omega arith)

pub bind_list-requires : goal.bind_list-requires
bind_list-requires t c =
    let a = c.args in
    let l = tag-falls a.work.now a.p _ c.word-tag.ensures 2 _ (λ z. omega arith) c.reference-rest.ensures in
    (omega (arith, l, c.decreases), tt)

pub bind_list-requires-in-6 : goal.bind_list-requires-in-6
bind_list-requires-in-6 t c =
    let a = c.args in
    let l = tag-falls a.work.now a.p _ c.word-tag.ensures 3 _ (λ z. omega arith) c.reference-head.ensures in
    (omega (arith, l, c.decreases), tt)

pub returns-in-6 : goal.returns-in-6
returns-in-6 t c =
    let a = c.args in
    list-both a.work.now a.p _ c.word-tag.ensures a.env.now _ _ c.reference-rest.ensures c.reference-head.ensures _ _ (omega arith) (omega arith) a.list a.first a.second _ c.inner_second.ensures c.bind_list.ensures c.bind_list-in-6.ensures
