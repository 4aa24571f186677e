-- The proof of the cycle {fill, fill_rows}. The measure is the pattern's reference, a list of rows above one row.
use Rattle.std.proofs.Common.{ℕ, ◌+◌, ◌-◌, ◌*◌, ◌<◌, ◌∙◌, arith, length-set, rules}
use borrow.Fn.Kinds.{In}
use borrow.Fn.PlainCycle.{Measures, is, falls, and}
use Rattle.environments.proofs.fill.fill.Reads as fill
use Rattle.environments.proofs.fill.fill.Kinds as fill-kinds
use Rattle.environments.proofs.fill.+fill_fill_rows.Lts-fill as fill-lts
use Rattle.environments.proofs.fill.fill_rows.Reads as fill-rows
use Rattle.environments.proofs.fill.fill_rows.Kinds as fill-rows-kinds
use Rattle.environments.proofs.fill.+fill_fill_rows.Lts-fill_rows as fill-rows-lts
use Rattle.arena.proofs.cells.reference.Reads as reference-reads
use Rattle.arena.proofs.cells.word.Reads as word-reads
use Rattle.arena.proofs.lists.first.Reads as first_reads
use Rattle.arena.proofs.lists.rest.Reads as rest-reads
use Rattle.environments.proofs.fill.open_block.Reads as open-block-reads
use Rattle.environments.proofs.fill.+fill_fill_rows.{statement}
use Rattle.environments.proofs.fill.+fill_fill_rows.Tie.{close}
use Rattle.environments.specs.PatternCells.{part_falls}
use Rattle.environments.specs.Fill.{Filling}
use Rattle.environments.specs.FillLaws.{row_inside, variable-small, filled-variable, filled_none, fillable-head, fillable-rest, filled-pair, ellipsis-openable, rows-small, ellipsis-rows, slot-inside, slot_small, fillable-behind, filled-ellipsis, filling-begins, filling-ends, filling-asks, filling-more}

abbrev μ-fill : Measures 1 fill-kinds.ps ℕ
μ-fill κs a =
    2 * a.1.0

abbrev μ-fill-rows : Measures 1 fill-rows-kinds.ps ℕ
μ-fill-rows κs a =
    2 * a.1.0 + 1

abbrev fill-at : ℕ → In 1 fill-kinds.ps
fill-at t = and 1 fill-kinds.ps (is 1 fill-kinds.ps μ-fill t) fill.Pre

abbrev fill-below : ℕ → In 1 fill-kinds.ps
fill-below t = and 1 fill-kinds.ps (falls 1 fill-kinds.ps ◌<◌ μ-fill t) fill.Pre

abbrev fill-rows-at : ℕ → In 1 fill-rows-kinds.ps
fill-rows-at t = and 1 fill-rows-kinds.ps (is 1 fill-rows-kinds.ps μ-fill-rows t) fill-rows.Pre

abbrev fill-rows-below : ℕ → In 1 fill-rows-kinds.ps
fill-rows-below t =
    and 1 fill-rows-kinds.ps (falls 1 fill-rows-kinds.ps ◌<◌ μ-fill-rows t) fill-rows.Pre

abbrev fill-claims : ℕ → fill-lts.Claims
fill-claims t = (word-reads.Asked, word-reads.Learnt, reference-reads.Asked, reference-reads.Learnt, open-block-reads.Asked, open-block-reads.Learnt, fill-rows-below t, fill-rows.Post, fill-below t, fill.Post, first_reads.Asked, first_reads.Learnt, rest-reads.Asked, rest-reads.Learnt)

abbrev fill-rows-claims : ℕ → fill-rows-lts.Claims
fill-rows-claims t = (first_reads.Asked, first_reads.Learnt, rest-reads.Asked, rest-reads.Learnt, fill-below t, fill.Post)

fill-slice-write-work : (t : ℕ) → fill-lts.Need-bounds-work-x (fill-claims t) (fill-at t) fill.Post
fill-slice-write-work t c =
    row_inside c.args.work.now c.args.p c.args.u c.args.x _ c.word-tag.ensures c.requires.1 c.if-tag-eq-VARIABLE.true

fill-add-t19 : (t : ℕ) → fill-lts.Need-overflow_add-result (fill-claims t) (fill-at t) fill.Post
fill-add-t19 t c =
    let s = variable-small c.args.work.now c.args.p c.args.u c.args.x _ c.word-tag.ensures c.requires.1 c.if-tag-eq-VARIABLE.true in omega (arith, s)

fill-returns : (t : ℕ) → fill-lts.Need-returns-then-tag-eq-VARIABLE (fill-claims t) (fill-at t) fill.Post
fill-returns t c =
    filled-variable c.args.work.now c.args.p c.args.u c.args.x _ c.word-tag.ensures c.requires.1 c.if-tag-eq-VARIABLE.true

fill-open-block-requires : (t : ℕ) → fill-lts.Need-open_block-b-requires (fill-claims t) (fill-at t) fill.Post
fill-open-block-requires t c κs =
    ellipsis-openable c.args.work.now c.args.p c.args.u c.args.x _ c.word-tag.ensures c.requires.1 _ _ c.reference-rest.ensures c.reference-head.ensures c.if-tag-eq-ELLIPSIS.true

fill-add-t28 : (t : ℕ) → fill-lts.Need-overflow_add-x (fill-claims t) (fill-at t) fill.Post
fill-add-t28 t c =
    let s = rows-small c.args.work.now c.args.p c.args.u c.args.x _ c.word-tag.ensures c.requires.1 _ _ c.reference-rest.ensures c.reference-head.ensures c.if-tag-eq-ELLIPSIS.true _ _ _ c.open_block-b.ensures c.open_block-b.auto.work in omega (arith, s)

fill-fill-rows-requires : (t : ℕ) → fill-lts.Need-fill_rows-y-requires (fill-claims t) (fill-at t) fill.Post
fill-fill-rows-requires t c κs =
    let l = part_falls c.args.work.now c.args.p _ c.word-tag.ensures 3 _ (λ z. omega arith) c.reference-head.ensures in (omega (arith, l, c.requires.0), ellipsis-rows c.args.work.now c.args.p c.args.u c.args.x _ c.word-tag.ensures c.requires.1 _ _ c.reference-rest.ensures c.reference-head.ensures c.if-tag-eq-ELLIPSIS.true _ _ _ c.open_block-b.ensures c.open_block-b.auto.work)

fill-slice-write-work-2 : (t : ℕ) → fill-lts.Need-bounds-work-x-then-tag-eq-ELLIPSIS (fill-claims t) (fill-at t) fill.Post
fill-slice-write-work-2 t c =
    slot-inside c.args.work.now c.args.p c.args.u c.args.x _ c.word-tag.ensures c.requires.1 _ _ c.reference-rest.ensures c.reference-head.ensures c.if-tag-eq-ELLIPSIS.true _ _ _ c.open_block-b.ensures c.open_block-b.auto.work _ _ _ c.fill_rows-y.ensures c.fill_rows-y.auto.work

fill-add-t28-2 : (t : ℕ) → fill-lts.Need-overflow_add-x-then-tag-eq-ELLIPSIS (fill-claims t) (fill-at t) fill.Post
fill-add-t28-2 t c =
    let s = slot_small c.args.work.now c.args.p c.args.u c.args.x _ c.word-tag.ensures c.requires.1 _ _ c.reference-rest.ensures c.reference-head.ensures c.if-tag-eq-ELLIPSIS.true _ _ _ c.open_block-b.ensures c.open_block-b.auto.work _ _ _ c.fill_rows-y.ensures c.fill_rows-y.auto.work in omega (arith, s)

fill-fill-requires : (t : ℕ) → fill-lts.Need-fill-requires (fill-claims t) (fill-at t) fill.Post
fill-fill-requires t c κs =
    let l = part_falls c.args.work.now c.args.p _ c.word-tag.ensures 2 _ (λ z. omega arith) c.reference-rest.ensures in (omega (arith, l, c.requires.0), fillable-behind c.args.work.now c.args.p c.args.u c.args.x _ c.word-tag.ensures c.requires.1 _ _ c.reference-rest.ensures c.reference-head.ensures c.if-tag-eq-ELLIPSIS.true _ _ _ c.open_block-b.ensures c.open_block-b.auto.work _ _ _ c.fill_rows-y.ensures c.fill_rows-y.auto.work)

fill-same-length-2 : (t : ℕ) → fill-lts.Need-shape_of-work-then-tag-eq-ELLIPSIS (fill-claims t) (fill-at t) fill.Post
fill-same-length-2 t c =
    (simp length-set at c.fill.auto.work) ∙ c.fill_rows-y.auto.work ∙ c.open_block-b.auto.work

fill-returns-2 : (t : ℕ) → fill-lts.Need-returns-then-tag-eq-ELLIPSIS (fill-claims t) (fill-at t) fill.Post
fill-returns-2 t c =
    filled-ellipsis c.args.work.now c.args.p c.args.u c.args.x _ c.word-tag.ensures c.requires.1 _ _ c.reference-rest.ensures c.reference-head.ensures c.if-tag-eq-ELLIPSIS.true _ _ _ c.open_block-b.ensures c.open_block-b.auto.work _ _ _ c.fill_rows-y.ensures c.fill_rows-y.auto.work _ _ c.fill.ensures

fill-returns-3 : (t : ℕ) → fill-lts.Need-returns-then-tag-ne-PAIR (fill-claims t) (fill-at t) fill.Post
fill-returns-3 t c =
    filled_none c.args.work.now c.args.p c.args.u c.args.x _ c.word-tag.ensures c.requires.1 c.if-tag-eq-VARIABLE.false c.if-tag-ne-PAIR.true c.if-tag-eq-ELLIPSIS.false

fill-fill-requires-2 : (t : ℕ) → fill-lts.Need-fill-y-requires (fill-claims t) (fill-at t) fill.Post
fill-fill-requires-2 t c κs =
    let l = part_falls c.args.work.now c.args.p _ c.word-tag.ensures 3 _ (λ z. omega arith) c.reference-head.ensures in (omega (arith, l, c.requires.0), fillable-head c.args.work.now c.args.p c.args.u c.args.x _ c.word-tag.ensures c.requires.1 _ _ _ _ c.reference-head.ensures c.reference-rest.ensures c.if-tag-ne-PAIR.false c.first-first.ensures c.rest-tail.ensures)

fill-fill-requires-3 : (t : ℕ) → fill-lts.Need-fill-requires-2 (fill-claims t) (fill-at t) fill.Post
fill-fill-requires-3 t c κs =
    let l = part_falls c.args.work.now c.args.p _ c.word-tag.ensures 2 _ (λ z. omega arith) c.reference-rest.ensures in (omega (arith, l, c.requires.0), fillable-rest c.args.work.now c.args.p c.args.u c.args.x _ c.word-tag.ensures c.requires.1 _ _ _ _ c.reference-head.ensures c.reference-rest.ensures c.if-tag-ne-PAIR.false c.first-first.ensures c.rest-tail.ensures _ _ c.fill-y.auto.work c.fill-y.ensures)

fill-same-length-4 : (t : ℕ) → fill-lts.Need-shape_of-work (fill-claims t) (fill-at t) fill.Post
fill-same-length-4 t c =
    c.fill-2.auto.work ∙ c.fill-y.auto.work

fill-returns-4 : (t : ℕ) → fill-lts.Need-returns (fill-claims t) (fill-at t) fill.Post
fill-returns-4 t c =
    filled-pair c.args.work.now c.args.p c.args.u c.args.x _ c.word-tag.ensures c.requires.1 _ _ _ _ c.reference-head.ensures c.reference-rest.ensures c.if-tag-ne-PAIR.false c.first-first.ensures c.rest-tail.ensures _ _ c.fill-y.auto.work c.fill-y.ensures _ _ c.fill-2.ensures

abbrev fill-rows-Inv-loop : fill-rows-lts.invariant-loop-i
fill-rows-Inv-loop work₀ p u c node₀ slot₀ top₀ i₀ work node slot top i =
    Filling work₀ work p u c (record { slot = slot₀; top = top₀ }) i node slot top

abbrev fill-rows-μ-loop : fill-rows-lts.decreases-loop-i
fill-rows-μ-loop work₀ p u c node₀ slot₀ top₀ i₀ work node slot top i =
    c - i

fill-rows-loop-holds : (t : ℕ) → fill-rows-lts.Need-loop-i-init (fill-rows-claims t) (fill-rows-at t) fill-rows.Post fill-rows-Inv-loop fill-rows-μ-loop
fill-rows-loop-holds t c =
    filling-begins c.args.work.now c.args.p c.args.u c.args.c c.args.x

fill-rows-fill-requires : (t : ℕ) → fill-rows-lts.Need-fill-y-requires (fill-rows-claims t) (fill-rows-at t) fill-rows.Post fill-rows-Inv-loop fill-rows-μ-loop
fill-rows-fill-requires t c κs =
    (omega (arith, c.requires.0), filling-asks c.args.work.now c.args.p c.args.u c.args.c c.args.x _ _ _ _ _ c.loop-i.invariant c.requires.1 c.loop-i-test.true _ _ c.first-first.ensures c.rest-tail.ensures)

fill-rows-loop-less : (t : ℕ) → fill-rows-lts.Need-loop-i-smaller (fill-rows-claims t) (fill-rows-at t) fill-rows.Post fill-rows-Inv-loop fill-rows-μ-loop
fill-rows-loop-less t c =
    omega (arith, c.loop-i-test.true)

fill-rows-loop-again : (t : ℕ) → fill-rows-lts.Need-loop-i-preserved (fill-rows-claims t) (fill-rows-at t) fill-rows.Post fill-rows-Inv-loop fill-rows-μ-loop
fill-rows-loop-again t c =
    filling-more c.args.work.now c.args.p c.args.u c.args.c c.args.x _ _ _ _ _ c.loop-i.invariant c.requires.1 c.loop-i-test.true _ _ c.first-first.ensures c.rest-tail.ensures _ _ c.fill-y.auto.work c.fill-y.ensures

fill-rows-same-length : (t : ℕ) → fill-rows-lts.Need-shape_of-work (fill-rows-claims t) (fill-rows-at t) fill-rows.Post fill-rows-Inv-loop fill-rows-μ-loop
fill-rows-same-length t c =
    c.loop-i.invariant.long

fill-rows-returns : (t : ℕ) → fill-rows-lts.Need-returns (fill-rows-claims t) (fill-rows-at t) fill-rows.Post fill-rows-Inv-loop fill-rows-μ-loop
fill-rows-returns t c =
    let args' = c.args in
    filling-ends args'.work.now args'.p args'.u args'.c args'.x _ _ _ _ _ c.loop-i.invariant (omega (arith, c.loop-i-test.false))

pub +fill_fill_rows_spec : {M : Type 1} → statement M
+fill_fill_rows_spec = close μ-fill μ-fill-rows (λ t. fill-lts.spec (fill-claims t)
    (fill-at t)
    fill.Post
    (λ c κs. search rules)  -- fill-word-requires
    (λ c. search rules)  -- fill-cast-work
    (λ c. search rules)  -- fill-mul-work
    (fill-slice-write-work t)
    (fill-add-t19 t)
    (λ c. search rules)  -- fill-same-length
    (fill-returns t)
    (λ c κs. search rules)  -- fill-reference-requires
    (λ c κs. search rules)  -- fill-reference-requires-2
    (fill-open-block-requires t)
    (fill-add-t28 t)
    (fill-fill-rows-requires t)
    (λ c. search rules)  -- fill-cast-work-2
    (λ c. search rules)  -- fill-mul-work-2
    (fill-slice-write-work-2 t)
    (fill-add-t28-2 t)
    (fill-fill-requires t)
    (fill-same-length-2 t)
    (fill-returns-2 t)
    (λ c. search rules)  -- fill-same-length-3
    (fill-returns-3 t)
    (λ c κs. search rules)  -- fill-first-requires
    (λ c κs. search rules)  -- fill-rest-requires
    (fill-fill-requires-2 t)
    (fill-fill-requires-3 t)
    (fill-same-length-4 t)
    (fill-returns-4 t))
    λ t. fill-rows-lts.spec (
      first_reads.Asked,
      first_reads.Learnt,
      rest-reads.Asked,
      rest-reads.Learnt,
      fill-below t,
      fill.Post,
    )
    (fill-rows-at t)
    fill-rows.Post
    fill-rows-Inv-loop
    fill-rows-μ-loop
    (fill-rows-loop-holds t)
    (λ c κs. search rules)  -- fill-rows-first-requires
    (λ c κs. search rules)  -- fill-rows-rest-requires
    (fill-rows-fill-requires t)
    (λ c. search rules)  -- fill-rows-add-i
    (fill-rows-loop-less t)
    (fill-rows-loop-again t)
    (fill-rows-same-length t)
    (fill-rows-returns t)
