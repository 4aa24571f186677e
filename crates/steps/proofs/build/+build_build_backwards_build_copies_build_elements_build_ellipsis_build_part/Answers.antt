use Rattle.environments.specs.PartLaws.{tag-falls}
use Rattle.environments.specs.EntryLaws.{moving-along}
use Rattle.steps.specs.ResultLaws.{made_none, pair-tail, pair-tail-costly, pair-head, pair-head-costly, pair-room, made_pair}
use Rattle.steps.specs.CopyLaws.{turning-begins, copies-none, copy-buildable, copy-costly, copy-room, turning-more, turning-ends, reversed-asks, copied, listed-waits, listed-backwards}
use Rattle.steps.specs.EllipsisLaws.{ellipsis-differs, ellipsis-rest, ellipsis-rest-costly, ellipsis-copies, made-copies}
use native.Mathlib.Omega.{arith}
use borrow.Author.Tests.{not-false}
use mathlib.Core.Path.{refl, sym, ◌∙◌}
use Rattle.steps.proofs.build.+build_build_backwards_build_copies_build_elements_build_ellipsis_build_part.Goals as goal

pub build-build_ellipsis-requires : goal.build-build_ellipsis-requires
build-build_ellipsis-requires t c =
    (omega (arith, c.decreases), (c.requires, sym c.word-tag.ensures ∙ c.if-tag-eq-ELLIPSIS.true))

pub build-returns-then-tag-eq-ELLIPSIS : goal.build-returns-then-tag-eq-ELLIPSIS
build-returns-then-tag-eq-ELLIPSIS t c =
    c.build_ellipsis.ensures

pub build-build_leaf-requires : goal.build-build_leaf-requires
build-build_leaf-requires t c =
    (c.requires, λ z. c.if-tag-ne-PAIR.true (c.word-tag.ensures ∙ z), λ z. c.if-tag-eq-ELLIPSIS.false (c.word-tag.ensures ∙ z))

pub build-returns-then-tag-ne-PAIR : goal.build-returns-then-tag-ne-PAIR
build-returns-then-tag-ne-PAIR t c =
    c.build_leaf.ensures

pub build-returns-in_err-spare : goal.build-returns-in_err-spare
build-returns-in_err-spare t c =
    let a = c.args in
    rw c.from_residual.ensures (made_none a.work.now a.top a.fuel a.env.now a.w a.t _ c.word-tag.ensures c.requires (omega (arith, c.in_err-spare.ensures)))

pub build-build_part-requires : goal.build-build_part-requires
build-build_part-requires t c =
    let a = c.args in
    let l = tag-falls a.work.now a.t _ c.word-tag.ensures 2 _ (λ z. omega (arith, c.if-tag-ne-PAIR.false)) c.reference-rest.ensures in (omega (arith, l, c.decreases), pair-tail a.work.now a.top a.fuel a.env.now a.w a.t _ c.word-tag.ensures c.requires _ _ c.reference-first.ensures c.reference-rest.ensures c.if-tag-ne-PAIR.false _ (omega (arith, c.in_ok-spare.ensures.0)) c.in_ok-spare.ensures.1)

pub build-returns-in_err-tail : goal.build-returns-in_err-tail
build-returns-in_err-tail t c =
    let a = c.args in
    rw c.from_residual-in_err-tail.ensures (pair-tail-costly a.work.now a.top a.fuel a.env.now a.w a.t _ c.word-tag.ensures c.requires _ _ c.reference-first.ensures c.reference-rest.ensures c.if-tag-ne-PAIR.false _ (omega (arith, c.in_ok-spare.ensures.0)) c.in_ok-spare.ensures.1 _ c.in_err-tail.ensures)

pub build-build_part-requires-2 : goal.build-build_part-requires-2
build-build_part-requires-2 t c =
    let a = c.args in
    let l = tag-falls a.work.now a.t _ c.word-tag.ensures 3 _ (λ z. omega (arith, c.if-tag-ne-PAIR.false)) c.reference-first.ensures in (omega (arith, l, c.decreases), pair-head a.work.now a.top a.fuel a.env.now a.w a.t _ c.word-tag.ensures c.requires _ _ c.reference-first.ensures c.reference-rest.ensures c.if-tag-ne-PAIR.false _ (omega (arith, c.in_ok-spare.ensures.0)) c.in_ok-spare.ensures.1 _ _ _ c.in_ok-tail.ensures c.build_part.auto.work)

pub build-returns-in_err-head : goal.build-returns-in_err-head
build-returns-in_err-head t c =
    let a = c.args in
    rw c.from_residual-in_err-head.ensures (pair-head-costly a.work.now a.top a.fuel a.env.now a.w a.t _ c.word-tag.ensures c.requires _ _ c.reference-first.ensures c.reference-rest.ensures c.if-tag-ne-PAIR.false _ (omega (arith, c.in_ok-spare.ensures.0)) c.in_ok-spare.ensures.1 _ _ _ c.in_ok-tail.ensures c.build_part.auto.work _ c.in_err-head.ensures)

pub build-put_pair-requires : goal.build-put_pair-requires
build-put_pair-requires t c =
    let a = c.args in
    let h = c.in_ok-head.ensures in (pair-room a.work.now a.top a.fuel a.env.now a.w a.t _ c.word-tag.ensures c.requires _ _ c.reference-first.ensures c.reference-rest.ensures c.if-tag-ne-PAIR.false _ (omega (arith, c.in_ok-spare.ensures.0)) c.in_ok-spare.ensures.1 _ _ _ c.in_ok-tail.ensures c.build_part.auto.work _ _ _ h c.build_part-2.auto.work, omega arith, h.paid.above)

pub build-returns : goal.build-returns
build-returns t c =
    let a = c.args in
    made_pair a.work.now a.top a.fuel a.env.now a.w a.t _ c.word-tag.ensures c.requires _ _ c.reference-first.ensures c.reference-rest.ensures c.if-tag-ne-PAIR.false _ (omega (arith, c.in_ok-spare.ensures.0)) c.in_ok-spare.ensures.1 _ _ _ c.in_ok-tail.ensures c.build_part.auto.work _ _ _ c.in_ok-head.ensures _ _ c.put_pair.ensures

pub build_backwards-loop-init : goal.build_backwards-loop-init
build_backwards-loop-init t c =
    let a = c.args in
    turning-begins a.work.now a.top a.fuel a.env.now a.w a.e a.c c.requires _ (c.begin-moving.ensures.0 a.work.now) c.begin-moving.ensures.1

pub build_backwards-returns-in_err-spare : goal.build_backwards-returns-in_err-spare
build_backwards-returns-in_err-spare t c =
    let a = c.args in
    rw c.from_residual.ensures (copies-none a.work.now a.top a.fuel a.env.now a.w a.e a.c c.requires _ _ _ _ _ c.loop.invariant c.loop-test.true (omega (arith, c.in_err-spare.ensures)))

pub build_backwards-enter-requires : goal.build_backwards-enter-requires
build_backwards-enter-requires t c =
    let a = c.args in
    moving-along c.loop.work a.env.now _ c.loop.counter _ c.loop.invariant.along c.begin-moving.ensures.2

pub build_backwards-build_part-requires : goal.build_backwards-build_part-requires
build_backwards-build_part-requires t c =
    let a = c.args in
    (omega (arith, c.decreases), rw c.in_ok-spare.ensures.1 (copy-buildable a.work.now a.top a.fuel a.env.now a.w a.e a.c c.requires _ _ _ _ _ c.loop.invariant c.loop-test.true (omega (arith, c.in_ok-spare.ensures.0)) _ c.enter.ensures))

pub build_backwards-returns-in_err-head : goal.build_backwards-returns-in_err-head
build_backwards-returns-in_err-head t c =
    let a = c.args in
    rw c.from_residual-in_err-head.ensures (copy-costly a.work.now a.top a.fuel a.env.now a.w a.e a.c c.requires _ _ _ _ _ c.loop.invariant c.loop-test.true (omega (arith, c.in_ok-spare.ensures.0)) _ c.enter.ensures _ (rw c.in_ok-spare.ensures.1 at c.in_err-head.ensures))

pub build_backwards-put_pair-list-requires : goal.build_backwards-put_pair-list-requires
build_backwards-put_pair-list-requires t c =
    let a = c.args in
    let b = rw c.in_ok-spare.ensures.1 at c.in_ok-head.ensures in (copy-room a.work.now a.top a.fuel a.env.now a.w a.e a.c c.requires _ _ _ _ _ c.loop.invariant c.loop-test.true (omega (arith, c.in_ok-spare.ensures.0)) _ c.enter.ensures _ _ _ b c.build_part.auto.work, omega arith, b.paid.above)

pub build_backwards-loop-preserved : goal.build_backwards-loop-preserved
build_backwards-loop-preserved t c =
    let a = c.args in
    turning-more a.work.now a.top a.fuel a.env.now a.w a.e a.c c.requires _ _ _ _ _ c.loop.invariant c.loop-test.true (omega (arith, c.in_ok-spare.ensures.0)) _ c.enter.ensures _ _ _ (rw c.in_ok-spare.ensures.1 at c.in_ok-head.ensures) c.build_part.auto.work _ _ c.put_pair-list.ensures c.put_pair-list.auto.work

pub build_backwards-returns : goal.build_backwards-returns
build_backwards-returns t c =
    let a = c.args in
    turning-ends a.work.now a.top a.fuel a.env.now a.w a.e a.c c.requires _ _ _ _ _ c.loop.invariant (omega (arith, c.loop-test.false))

pub build_copies-build_elements-requires : goal.build_copies-build_elements-requires
build_copies-build_elements-requires t c =
    (omega (arith, c.decreases), c.requires)

pub build_copies-returns-in_err-list : goal.build_copies-returns-in_err-list
build_copies-returns-in_err-list t c =
    let a = c.args in
    rw c.from_residual.ensures (c.in_err-list.ensures)

pub build_copies-put_reversed-requires : goal.build_copies-put_reversed-requires
build_copies-put_reversed-requires t c =
    let a = c.args in
    reversed-asks a.work.now a.top a.fuel a.env.now a.w a.e a.c c.requires _ _ _ c.in_ok-list.ensures c.build_elements.auto.work

pub build_copies-returns : goal.build_copies-returns
build_copies-returns t c =
    let a = c.args in
    copied a.work.now a.top a.fuel a.env.now a.w a.e a.c c.requires _ _ _ c.in_ok-list.ensures c.build_elements.auto.work _ _ c.put_reversed.ensures

pub build_elements-build_backwards-requires : goal.build_elements-build_backwards-requires
build_elements-build_backwards-requires t c =
    (omega (arith, c.decreases), c.requires)

pub build_elements-returns-then-not-is_listed : goal.build_elements-returns-then-not-is_listed
build_elements-returns-then-not-is_listed t c =
    c.build_backwards.ensures

pub build_elements-copy_elements-requires : goal.build_elements-copy_elements-requires
build_elements-copy_elements-requires t c =
    let a = c.args in
    listed-waits a.work.now a.top a.fuel a.env.now a.w a.e a.c c.requires (c.is_listed.ensures (not-false _ c.if-not-is_listed.false-raw)) _ _ c.word-k.ensures c.taken-list.ensures

pub build_elements-returns : goal.build_elements-returns
build_elements-returns t c =
    let a = c.args in
    listed-backwards a.work.now a.top a.fuel a.env.now a.w a.e a.c c.requires (c.is_listed.ensures (not-false _ c.if-not-is_listed.false-raw)) _ _ c.word-k.ensures c.taken-list.ensures c.copy_elements.new.work c.copy_elements.result c.copy_elements.ensures

pub build_ellipsis-returns-in_default : goal.build_ellipsis-returns-in_default
build_ellipsis-returns-in_default t c =
    let a = c.args in
    ellipsis-differs a.work.now a.top a.fuel a.env.now a.w a.t _ refl c.requires.0 _ _ c.reference-first.ensures c.reference-rest.ensures c.requires.1 c.in_default.ensures

pub build_ellipsis-build_part-requires : goal.build_ellipsis-build_part-requires
build_ellipsis-build_part-requires t c =
    let a = c.args in
    let l = tag-falls a.work.now a.t _ refl 2 _ (λ z. omega (arith, c.requires.1)) c.reference-rest.ensures in (omega (arith, l, c.decreases), ellipsis-rest a.work.now a.top a.fuel a.env.now a.w a.t _ refl c.requires.0 _ _ c.reference-first.ensures c.reference-rest.ensures c.requires.1)

pub build_ellipsis-returns-in_err-tail : goal.build_ellipsis-returns-in_err-tail
build_ellipsis-returns-in_err-tail t c =
    let a = c.args in
    rw c.from_residual.ensures (ellipsis-rest-costly a.work.now a.top a.fuel a.env.now a.w a.t _ refl c.requires.0 _ _ c.reference-first.ensures c.reference-rest.ensures c.requires.1 _ c.in-Ok.ensures _ c.in_err-tail.ensures)

pub build_ellipsis-build_copies-requires : goal.build_ellipsis-build_copies-requires
build_ellipsis-build_copies-requires t c =
    let a = c.args in
    let l = tag-falls a.work.now a.t _ refl 3 _ (λ z. omega (arith, c.requires.1)) c.reference-first.ensures in (omega (arith, l, c.decreases), ellipsis-copies a.work.now a.top a.fuel a.env.now a.w a.t _ refl c.requires.0 _ _ c.reference-first.ensures c.reference-rest.ensures c.requires.1 _ c.in-Ok.ensures _ _ _ c.in_ok-tail.ensures c.build_part.auto.work)

pub build_ellipsis-returns : goal.build_ellipsis-returns
build_ellipsis-returns t c =
    let a = c.args in
    made-copies a.work.now a.top a.fuel a.env.now a.w a.t _ refl c.requires.0 _ _ c.reference-first.ensures c.reference-rest.ensures c.requires.1 _ c.in-Ok.ensures _ _ _ c.in_ok-tail.ensures c.build_part.auto.work c.build_copies.new.work c.build_copies.result c.build_copies.ensures

pub build_part-build_leaf-requires : goal.build_part-build_leaf-requires
build_part-build_leaf-requires t c =
    (c.requires, λ z. omega (arith, c.word-tag.ensures, z, c.if-tag-lt-PAIR.true), λ z. omega (arith, c.word-tag.ensures, z, c.if-tag-lt-PAIR.true))

pub build_part-returns-then-tag-lt-PAIR : goal.build_part-returns-then-tag-lt-PAIR
build_part-returns-then-tag-lt-PAIR t c =
    c.build_leaf.ensures

pub build_part-build_leaf-requires-then-tag-gt-ELLIPSIS : goal.build_part-build_leaf-requires-then-tag-gt-ELLIPSIS
build_part-build_leaf-requires-then-tag-gt-ELLIPSIS t c =
    (c.requires, λ z. omega (arith, c.word-tag.ensures, z, c.if-tag-gt-ELLIPSIS.true), λ z. omega (arith, c.word-tag.ensures, z, c.if-tag-gt-ELLIPSIS.true))

pub build_part-returns-then-tag-gt-ELLIPSIS : goal.build_part-returns-then-tag-gt-ELLIPSIS
build_part-returns-then-tag-gt-ELLIPSIS t c =
    c.build_leaf-then-tag-gt-ELLIPSIS.ensures

pub build_part-build-requires : goal.build_part-build-requires
build_part-build-requires t c =
    (omega (arith, c.decreases), c.requires)

pub build_part-returns : goal.build_part-returns
build_part-returns t c =
    c.build.ensures
