use Rattle.std.proofs.Common.{ℕ, set, sym, ◌∙◌, subst, arith}
use Rattle.environments.specs.PartLaws.{tag-falls}
use Rattle.environments.specs.LengthLaws.{deeper-most, drivers-none, drivers-few, drivers-one, drivers-both}
use Rattle.environments.specs.Marks.{Marks}
use Rattle.environments.specs.MarkLaws.{variable-low, parts-plain, marks-nothing, marks-one, marks-both}
use Rattle.environments.proofs.marks.+mark.Goals as goal

pub place-requires : goal.place-requires
place-requires t c =
    let a = c.args in
    let low = variable-low a.work.now a.t _ c.word-tag.ensures c.requires.2 _ _ c.in-1.is c.word-d.ensures c.word-k.ensures in
    (low.0, omega (arith, low.1))

pub bounds-marks-place : goal.bounds-marks-place
bounds-marks-place t c =
    let a = c.args in
    let low = variable-low a.work.now a.t _ c.word-tag.ensures c.requires.2 _ _ c.in-1.is c.word-d.ensures c.word-k.ensures in
    omega (arith, low.0, low.1, c.place.ensures, c.requires.1)

pub returns-then-j-d : goal.returns-then-j-d
returns-then-j-d t c =
    let a = c.args in
    let low = variable-low a.work.now a.t _ c.word-tag.ensures c.requires.2 _ _ c.in-1.is c.word-d.ensures c.word-k.ensures in
    subst (λ (i : ℕ). Marks a.work.now a.j a.t a.marks.now (set a.marks.now i 1)) (sym c.place.ensures)
    (marks-one a.work.now a.j a.t a.marks.now _ _ (drivers-one a.work.now a.t _ c.word-tag.ensures a.j _ _ c.in-1.is c.word-d.ensures c.word-k.ensures c.if-j-d.true) c.requires.1 low.0 (omega (arith, low.1)))

pub returns-else-j-d : goal.returns-else-j-d
returns-else-j-d t c =
    let a = c.args in
    marks-nothing a.work.now a.j a.t a.marks.now (drivers-few a.work.now a.t _ c.word-tag.ensures a.j _ c.in-1.is c.word-d.ensures c.if-j-d.false)

pub returns-then-tag-lt6 : goal.returns-then-tag-lt6
returns-then-tag-lt6 t c =
    let a = c.args in
    marks-nothing a.work.now a.j a.t a.marks.now (drivers-none a.work.now a.t _ c.word-tag.ensures a.j (λ z. omega arith) (λ z. omega arith) (λ z. omega arith))

pub returns-else-tag-lt8 : goal.returns-else-tag-lt8
returns-else-tag-lt8 t c =
    let a = c.args in
    marks-nothing a.work.now a.j a.t a.marks.now (drivers-none a.work.now a.t _ c.word-tag.ensures a.j (λ z. omega arith) (λ z. omega arith) (λ z. omega arith))

pub deeper-requires : goal.deeper-requires
deeper-requires t c =
    let a = c.args in
    let l = tag-falls a.work.now a.t _ c.word-tag.ensures 3 _ (λ z. omega arith) c.reference-head.ensures in omega (arith, l, c.requires.0)

pub mark-requires : goal.mark-requires
mark-requires t c =
    let a = c.args in
    let l = tag-falls a.work.now a.t _ c.word-tag.ensures 3 _ (λ z. omega arith) c.reference-head.ensures in
    let p = parts-plain a.work.now a.t _ c.word-tag.ensures c.requires.2 _ _ (omega arith) (omega arith) c.reference-head.ensures c.reference-rest.ensures in
    (omega (arith, l, c.decreases), (omega (arith, l, c.requires.0, c.deeper.ensures, deeper-most c.word-tag.result a.j), c.requires.1, p.0))

pub mark-requires-in-6 : goal.mark-requires-in-6
mark-requires-in-6 t c =
    let a = c.args in
    let l = tag-falls a.work.now a.t _ c.word-tag.ensures 2 _ (λ z. omega arith) c.reference-rest.ensures in
    let p = parts-plain a.work.now a.t _ c.word-tag.ensures c.requires.2 _ _ (omega arith) (omega arith) c.reference-head.ensures c.reference-rest.ensures in
    (omega (arith, l, c.decreases), (omega (arith, l, c.requires.0), c.mark.auto.marks ∙ c.requires.1, p.1))

pub returns-in-6 : goal.returns-in-6
returns-in-6 t c =
    let a = c.args in
    marks-both a.work.now a.j a.t _ _ _ _ _ _ (drivers-both a.work.now a.t _ c.word-tag.ensures a.j _ _ _ (omega arith) (omega arith) c.deeper.ensures c.reference-head.ensures c.reference-rest.ensures) c.mark.ensures c.mark-in-6.ensures
