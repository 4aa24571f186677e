-- The proof of the cycle {slots}. The measure is the pattern's reference.
use Rattle.std.proofs.Common.{ℕ, ◌<◌, arith, rules}
use borrow.Fn.Kinds.{In}
use borrow.Fn.PlainCycle.{Measures, is, falls, and}
use Rattle.environments.proofs.fill.slots.Reads as slots
use Rattle.environments.proofs.fill.slots.Kinds as slots-kinds
use Rattle.environments.proofs.fill.+slots.Lts-slots as slots-lts
use Rattle.arena.proofs.cells.reference.Reads as reference-reads
use Rattle.arena.proofs.cells.word.Reads as word-reads
use Rattle.environments.proofs.fill.+slots.{statement}
use Rattle.environments.proofs.fill.+slots.Tie.{close}
use Rattle.environments.specs.PatternCells.{part_falls}
use Rattle.environments.specs.BlockLaws.{slots-variable, slots-none, slots-ellipsis, slots-pair}

abbrev μ-slots : Measures 1 slots-kinds.ps ℕ
μ-slots κs a =
    a.1.0

abbrev slots_at : ℕ → In 1 slots-kinds.ps
slots_at t = and 1 slots-kinds.ps (is 1 slots-kinds.ps μ-slots t) slots.Pre

abbrev slots-below : ℕ → In 1 slots-kinds.ps
slots-below t = and 1 slots-kinds.ps (falls 1 slots-kinds.ps ◌<◌ μ-slots t) slots.Pre

abbrev slots-claims : ℕ → slots-lts.Claims
slots-claims t = (word-reads.Asked, word-reads.Learnt, reference-reads.Asked, reference-reads.Learnt, slots-below t, slots.Post)

slots-add-result : (t : ℕ) → slots-lts.Need-overflow_add-result (slots-claims t) (slots_at t) slots.Post
slots-add-result t c =
    let s = slots-variable c.args.work.now c.args.p _ c.word-tag.ensures c.if-tag-eq-VARIABLE.true in omega (arith, s, c.requires.1)

slots-returns : (t : ℕ) → slots-lts.Need-returns-then-tag-eq-VARIABLE (slots-claims t) (slots_at t) slots.Post
slots-returns t c =
    let s = slots-variable c.args.work.now c.args.p _ c.word-tag.ensures c.if-tag-eq-VARIABLE.true in omega (arith, s)

slots-add-slots : (t : ℕ) → slots-lts.Need-overflow_add-n (slots-claims t) (slots_at t) slots.Post
slots-add-slots t c =
    let s = slots-ellipsis c.args.work.now c.args.p _ c.word-tag.ensures _ c.reference-rest.ensures c.if-tag-eq-ELLIPSIS.true in omega (arith, s, c.requires.1)

slots-slots-requires : (t : ℕ) → slots-lts.Need-slots-requires (slots-claims t) (slots_at t) slots.Post
slots-slots-requires t c κs =
    let s = slots-ellipsis c.args.work.now c.args.p _ c.word-tag.ensures _ c.reference-rest.ensures c.if-tag-eq-ELLIPSIS.true in
    let l = part_falls c.args.work.now c.args.p _ c.word-tag.ensures 2 _ (λ z. omega arith) c.reference-rest.ensures in
    (omega (arith, l, c.requires.0), omega (arith, s, c.requires.1))

slots-returns-2 : (t : ℕ) → slots-lts.Need-returns-then-tag-eq-ELLIPSIS (slots-claims t) (slots_at t) slots.Post
slots-returns-2 t c =
    let args' = c.args in
    let s = slots-ellipsis args'.work.now args'.p _ c.word-tag.ensures _ c.reference-rest.ensures c.if-tag-eq-ELLIPSIS.true in omega (arith, s, c.slots.ensures)

slots-returns-3 : (t : ℕ) → slots-lts.Need-returns-then-tag-ne-PAIR (slots-claims t) (slots_at t) slots.Post
slots-returns-3 t c =
    let args' = c.args in
    let s = slots-none args'.work.now args'.p _ c.word-tag.ensures c.if-tag-eq-VARIABLE.false c.if-tag-ne-PAIR.true c.if-tag-eq-ELLIPSIS.false in omega (arith, s)

slots-slots-requires-2 : (t : ℕ) → slots-lts.Need-slots-first-requires (slots-claims t) (slots_at t) slots.Post
slots-slots-requires-2 t c κs =
    let s = slots-pair c.args.work.now c.args.p _ c.word-tag.ensures _ c.reference-rest.ensures _ c.reference-head.ensures c.if-tag-ne-PAIR.false in
    let l = part_falls c.args.work.now c.args.p _ c.word-tag.ensures 3 _ (λ z. omega arith) c.reference-head.ensures in
    (omega (arith, l, c.requires.0), omega (arith, s, c.requires.1))

slots-slots-requires-3 : (t : ℕ) → slots-lts.Need-slots-requires-2 (slots-claims t) (slots_at t) slots.Post
slots-slots-requires-3 t c κs =
    let s = slots-pair c.args.work.now c.args.p _ c.word-tag.ensures _ c.reference-rest.ensures _ c.reference-head.ensures c.if-tag-ne-PAIR.false in
    let l = part_falls c.args.work.now c.args.p _ c.word-tag.ensures 2 _ (λ z. omega arith) c.reference-rest.ensures in
    (omega (arith, l, c.requires.0), omega (arith, s, c.slots-first.ensures, c.requires.1))

slots-returns-4 : (t : ℕ) → slots-lts.Need-returns (slots-claims t) (slots_at t) slots.Post
slots-returns-4 t c =
    let args' = c.args in
    let s = slots-pair args'.work.now args'.p _ c.word-tag.ensures _ c.reference-rest.ensures _ c.reference-head.ensures c.if-tag-ne-PAIR.false in omega (arith, s, c.slots-first.ensures, c.slots-2.ensures)

pub +slots_spec : {M : Type 1} → statement M
+slots_spec = close μ-slots λ t. slots-lts.spec (slots-claims t)
    (slots_at t)
    slots.Post
    (λ c κs. search rules)  -- slots-word-requires
    (slots-add-result t)
    (slots-returns t)
    (λ c κs. search rules)  -- slots-reference-requires
    (slots-add-slots t)
    (slots-slots-requires t)
    (slots-returns-2 t)
    (slots-returns-3 t)
    (λ c κs. search rules)  -- slots-reference-requires-2
    (slots-slots-requires-2 t)
    (slots-slots-requires-3 t)
    (slots-returns-4 t)
