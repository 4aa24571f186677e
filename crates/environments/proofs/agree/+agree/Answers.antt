use Rattle.std.proofs.Common.{◌∙◌, arith, rules}
use Rattle.environments.specs.PartLaws.{tag-falls}
use Rattle.environments.specs.MarkLaws.{parts-plain}
use Rattle.environments.specs.AgreeLaws.{agree-leaf, agree-head-no, agree-tail, agree_differ, agree-copies-no, agree-rest}
use Rattle.environments.proofs.agree.+agree.Goals as goal

pub agree-requires : goal.agree-requires
agree-requires t c =
    let a = c.args in
    let l = tag-falls a.work.now a.t _ c.word.ensures 3 _ (λ z. omega (arith, c.in-6.is)) c.reference-head.ensures in
    let p = parts-plain a.work.now a.t _ c.word.ensures c.requires _ _ (omega (arith, c.in-6.is)) (omega (arith, c.in-6.is)) c.reference-head.ensures c.reference-rest.ensures in
    (omega (arith, l, c.decreases), p.0)

pub returns-else-agree : goal.returns-else-agree
returns-else-agree t c =
    let a = c.args in
    λ w. c.if-agree.false ∙ agree-head-no a.work.now a.env.now a.t a.round _ c.word.ensures _ _ c.reference-head.ensures c.reference-rest.ensures c.in-6.is _ c.agree.ensures c.if-agree.false w

pub agree-requires-then-agree : goal.agree-requires-then-agree
agree-requires-then-agree t c =
    let a = c.args in
    let l = tag-falls a.work.now a.t _ c.word.ensures 2 _ (λ z. omega (arith, c.in-6.is)) c.reference-rest.ensures in
    let p = parts-plain a.work.now a.t _ c.word.ensures c.requires _ _ (omega (arith, c.in-6.is)) (omega (arith, c.in-6.is)) c.reference-head.ensures c.reference-rest.ensures in
    (omega (arith, l, c.decreases), p.1)

pub returns-then-agree : goal.returns-then-agree
returns-then-agree t c =
    let a = c.args in
    agree-tail a.work.now a.env.now a.t a.round _ c.word.ensures _ _ c.reference-head.ensures c.reference-rest.ensures c.in-6.is _ _ c.agree.ensures c.if-agree.true c.agree-then-agree.ensures

pub counted-requires : goal.counted-requires
counted-requires t c =
    let a = c.args in
    (parts-plain a.work.now a.t _ c.word.ensures c.requires _ _ (omega (arith, c.in-7.is)) (omega (arith, c.in-7.is)) c.reference-head.ensures c.reference-rest.ensures).0

pub returns-in_default-counted : goal.returns-in_default-counted
returns-in_default-counted t c =
    let a = c.args in
    let p = parts-plain a.work.now a.t _ c.word.ensures c.requires _ _ (omega (arith, c.in-7.is)) (omega (arith, c.in-7.is)) c.reference-head.ensures c.reference-rest.ensures in
    agree_differ a.work.now a.env.now a.t a.round _ c.word.ensures _ _ c.reference-head.ensures c.reference-rest.ensures c.in-7.is p.0 c.in_default-counted.ensures

pub agree-requires-in-7 : goal.agree-requires-in-7
agree-requires-in-7 t c =
    let a = c.args in
    let l = tag-falls a.work.now a.t _ c.word.ensures 3 _ (λ z. omega (arith, c.in-7.is)) c.reference-head.ensures in
    let p = parts-plain a.work.now a.t _ c.word.ensures c.requires _ _ (omega (arith, c.in-7.is)) (omega (arith, c.in-7.is)) c.reference-head.ensures c.reference-rest.ensures in
    (omega (arith, l, c.decreases), p.0)

pub returns-else-agree-2 : goal.returns-else-agree-2
returns-else-agree-2 t c =
    let a = c.args in
    let p = parts-plain a.work.now a.t _ c.word.ensures c.requires _ _ (omega (arith, c.in-7.is)) (omega (arith, c.in-7.is)) c.reference-head.ensures c.reference-rest.ensures in
    λ w. c.if-agree-2.false ∙ agree-copies-no a.work.now a.env.now a.t a.round _ c.word.ensures _ _ c.reference-head.ensures c.reference-rest.ensures c.in-7.is p.0 _ c.in-Ok.ensures _ c.agree-in-7.ensures c.if-agree-2.false w

pub agree-requires-then-agree-2 : goal.agree-requires-then-agree-2
agree-requires-then-agree-2 t c =
    let a = c.args in
    let l = tag-falls a.work.now a.t _ c.word.ensures 2 _ (λ z. omega (arith, c.in-7.is)) c.reference-rest.ensures in
    let p = parts-plain a.work.now a.t _ c.word.ensures c.requires _ _ (omega (arith, c.in-7.is)) (omega (arith, c.in-7.is)) c.reference-head.ensures c.reference-rest.ensures in
    (omega (arith, l, c.decreases), p.1)

pub returns-then-agree-2 : goal.returns-then-agree-2
returns-then-agree-2 t c =
    let a = c.args in
    let p = parts-plain a.work.now a.t _ c.word.ensures c.requires _ _ (omega (arith, c.in-7.is)) (omega (arith, c.in-7.is)) c.reference-head.ensures c.reference-rest.ensures in
    agree-rest a.work.now a.env.now a.t a.round _ c.word.ensures _ _ c.reference-head.ensures c.reference-rest.ensures c.in-7.is p.0 _ c.in-Ok.ensures _ c.agree-in-7.ensures _ c.if-agree-2.true c.agree-then-agree-2.ensures

pub returns-in_default : goal.returns-in_default
returns-in_default t c =
    let a = c.args in
    agree-leaf a.work.now a.env.now a.t a.round _ c.word.ensures (search rules) (search rules)
