-- The proof of the cycle {part}. The loop's invariant: what is found further on is what is looked for. The measure is the pattern's
-- reference.
use Rattle.std.proofs.Common.{ℕ, ◌<◌, ◌≤◌, sym, ◌∙◌, arith, rules}
use borrow.Fn.Kinds.{In}
use borrow.Fn.PlainCycle.{Measures, is, falls, and}
use Rattle.environments.proofs.parts.part.Reads as part
use Rattle.environments.proofs.parts.part.Kinds as part-kinds
use Rattle.environments.proofs.parts.+part.Lts-part as part-lts
use Rattle.arena.proofs.cells.reference.Reads as reference-reads
use Rattle.arena.proofs.cells.word.Reads as word-reads
use Rattle.arena.proofs.lists.first.Reads as first_reads
use Rattle.arena.proofs.lists.rest.Reads as rest-reads
use Rattle.environments.proofs.parts.part_holds.Reads as part-holds-reads
use Rattle.environments.proofs.shares.after.Reads as after-reads
use Rattle.environments.proofs.parts.+part.{statement}
use Rattle.environments.proofs.parts.+part.Tie.{close}
use Rattle.environments.specs.PartLaws.{tag-falls, part-variable, part_none, part-head, part-tail, part-list, part-after, Leads}

abbrev μ-part : Measures 1 part-kinds.ps ℕ
μ-part κs a =
    a.1.0

abbrev part_at : ℕ → In 1 part-kinds.ps
part_at t = and 1 part-kinds.ps (is 1 part-kinds.ps μ-part t) part.Pre

abbrev part-below : ℕ → In 1 part-kinds.ps
part-below t = and 1 part-kinds.ps (falls 1 part-kinds.ps ◌<◌ μ-part t) part.Pre

abbrev part-claims : ℕ → part-lts.Claims
part-claims t = (word-reads.Asked, word-reads.Learnt, reference-reads.Asked, reference-reads.Learnt, part-holds-reads.Asked, part-holds-reads.Learnt, first_reads.Asked, first_reads.Learnt, rest-reads.Asked, rest-reads.Learnt, after-reads.Asked, after-reads.Learnt, part-below t, part.Post)

abbrev part-Inv-loop : part-lts.invariant-loop-head
part-Inv-loop work p k u at₀ node₀ at node =
    (at ≤ p) × Leads work p k u at node

abbrev part-μ-loop : part-lts.decreases-loop-head
part-μ-loop work p k u at₀ node₀ at node =
    at

part-loop-holds : (t : ℕ) → part-lts.Need-loop-head-init (part-claims t) (part_at t) part.Post part-Inv-loop part-μ-loop
part-loop-holds t c =
    (omega arith, λ r f. f)

part-loop-less : (t : ℕ) → part-lts.Need-loop-head-smaller-then-part_holds (part-claims t) (part_at t) part.Post part-Inv-loop part-μ-loop
part-loop-less t c =
    let a = c.args in
    tag-falls a.work.now c.loop-head.at _ c.word.ensures 3 _ (λ z. omega arith) c.reference-head.ensures

part-loop-again : (t : ℕ) → part-lts.Need-loop-head-preserved-then-part_holds (part-claims t) (part_at t) part.Post part-Inv-loop part-μ-loop
part-loop-again t c =
    let a = c.args in
    let falls = tag-falls a.work.now c.loop-head.at _ c.word.ensures 3 _ (λ z. omega arith) c.reference-head.ensures in
    (omega (arith, c.loop-head.invariant.0, falls), λ r f. c.loop-head.invariant.1 r (part-head a.work.now c.loop-head.at _ c.word.ensures a.k c.loop-head.node _ _ c.loop-head-test.true c.reference-head.ensures c.part_holds.ensures _ r c.if-part_holds.true c.first-node.ensures f))

part-loop-less-2 : (t : ℕ) → part-lts.Need-loop-head-smaller (part-claims t) (part_at t) part.Post part-Inv-loop part-μ-loop
part-loop-less-2 t c =
    let a = c.args in
    tag-falls a.work.now c.loop-head.at _ c.word.ensures 2 _ (λ z. omega arith) c.reference-at.ensures

part-loop-again-2 : (t : ℕ) → part-lts.Need-loop-head-preserved (part-claims t) (part_at t) part.Post part-Inv-loop part-μ-loop
part-loop-again-2 t c =
    let a = c.args in
    let falls = tag-falls a.work.now c.loop-head.at _ c.word.ensures 2 _ (λ z. omega arith) c.reference-at.ensures in
    (omega (arith, c.loop-head.invariant.0, falls), λ r f. c.loop-head.invariant.1 r (part-tail a.work.now c.loop-head.at _ c.word.ensures a.k c.loop-head.node _ _ c.loop-head-test.true c.reference-head.ensures c.part_holds.ensures _ r _ c.if-part_holds.false c.reference-at.ensures c.rest-node.ensures f))

part-returns : (t : ℕ) → part-lts.Need-returns-then-tag-eq-VARIABLE (part-claims t) (part_at t) part.Post part-Inv-loop part-μ-loop
part-returns t c =
    let a = c.args in
    c.loop-head.invariant.1 _ (part-variable a.work.now c.loop-head.at _ c.word-tag.ensures a.k c.loop-head.node c.if-tag-eq-VARIABLE.true)

part-returns-2 : (t : ℕ) → part-lts.Need-returns-then-tag-ne-ELLIPSIS (part-claims t) (part_at t) part.Post part-Inv-loop part-μ-loop
part-returns-2 t c =
    let a = c.args in
    c.loop-head.invariant.1 _ (part_none a.work.now c.loop-head.at _ c.word-tag.ensures a.k c.loop-head.node c.if-tag-eq-VARIABLE.false (λ z. c.loop-head-test.false (c.word.ensures ∙ sym c.word-tag.ensures ∙ z)) c.if-tag-ne-ELLIPSIS.true)

part-returns-3 : (t : ℕ) → part-lts.Need-returns-then-part_holds-2 (part-claims t) (part_at t) part.Post part-Inv-loop part-μ-loop
part-returns-3 t c =
    let a = c.args in
    c.loop-head.invariant.1 _ (part-list a.work.now c.loop-head.at _ c.word-tag.ensures a.k c.loop-head.node _ _ c.if-tag-ne-ELLIPSIS.false c.reference-element.ensures c.part_holds-2.ensures c.if-part_holds-2.true)

part-part-requires : (t : ℕ) → part-lts.Need-part-requires (part-claims t) (part_at t) part.Post part-Inv-loop part-μ-loop
part-part-requires t c κs =
    let a = c.args in
    let falls = tag-falls a.work.now c.loop-head.at _ c.word-tag.ensures 2 _ (λ z. omega (arith, c.if-tag-ne-ELLIPSIS.false)) c.reference-rest.ensures in
    omega (arith, c.loop-head.invariant.0, falls)

part-returns-4 : (t : ℕ) → part-lts.Need-returns (part-claims t) (part_at t) part.Post part-Inv-loop part-μ-loop
part-returns-4 t c =
    let a = c.args in
    c.loop-head.invariant.1 _ (part-after a.work.now c.loop-head.at _ c.word-tag.ensures a.k c.loop-head.node _ _ c.if-tag-ne-ELLIPSIS.false c.reference-element.ensures c.part_holds-2.ensures _ _ _ c.if-part_holds-2.false c.reference-rest.ensures c.after-after.ensures c.part.ensures)

pub +part_spec : {M : Type 1} → statement M
+part_spec = close μ-part λ t. part-lts.spec (part-claims t)
    (part_at t)
    part.Post
    part-Inv-loop
    part-μ-loop
    (part-loop-holds t)
    (λ c κs. search rules)  -- part-word-requires
    (λ c κs. search rules)  -- part-reference-requires
    (λ c κs. search rules)  -- part-part-holds-requires
    (λ c κs. search rules)  -- part-first-requires
    (part-loop-less t)
    (part-loop-again t)
    (λ c κs. search rules)  -- part-reference-requires-2
    (λ c κs. search rules)  -- part-rest-requires
    (part-loop-less-2 t)
    (part-loop-again-2 t)
    (λ c κs. search rules)  -- part-word-requires-2
    (part-returns t)
    (part-returns-2 t)
    (λ c κs. search rules)  -- part-reference-requires-3
    (λ c κs. search rules)  -- part-part-holds-requires-2
    (part-returns-3 t)
    (λ c κs. search rules)  -- part-after-requires
    (λ c κs. search rules)  -- part-reference-requires-4
    (part-part-requires t)
    (part-returns-4 t)
