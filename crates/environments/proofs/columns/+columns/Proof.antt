-- The proof of the cycle {columns}. The measure is the pattern's reference.
use Rattle.std.proofs.Common.{ℕ, ◌<◌, arith, rules}
use borrow.Fn.Kinds.{In}
use borrow.Fn.PlainCycle.{Measures, is, falls, and}
use Rattle.environments.proofs.columns.columns.Reads as columns
use Rattle.environments.proofs.columns.columns.Kinds as columns-kinds
use Rattle.environments.proofs.columns.+columns.Lts-columns as columns-lts
use Rattle.arena.proofs.cells.reference.Reads as reference-reads
use Rattle.arena.proofs.cells.word.Reads as word-reads
use Rattle.environments.proofs.entries.found.Reads as found-reads
use Rattle.environments.proofs.entries.inside.Reads as inside-reads
use Rattle.environments.proofs.entries.next.Reads as next-reads
use Rattle.environments.proofs.entries.set.Reads as set_Reads
use Rattle.environments.proofs.columns.+columns.{statement}
use Rattle.environments.proofs.columns.+columns.Tie.{close}
use Rattle.environments.specs.PatternCells.{part_falls}
use Rattle.environments.specs.ColumnLaws.{advance-words, inside-words, columned-variable, columned-none, pair-words, columned-pair, columned-ellipsis}

abbrev μ-columns : Measures 2 columns-kinds.ps ℕ
μ-columns κs a =
    a.1.1.0

abbrev columns-at : ℕ → In 2 columns-kinds.ps
columns-at t = and 2 columns-kinds.ps (is 2 columns-kinds.ps μ-columns t) columns.Pre

abbrev columns-below : ℕ → In 2 columns-kinds.ps
columns-below t = and 2 columns-kinds.ps (falls 2 columns-kinds.ps ◌<◌ μ-columns t) columns.Pre

abbrev columns-claims : ℕ → columns-lts.Claims
columns-claims t = (word-reads.Asked, word-reads.Learnt, found-reads.Asked, found-reads.Learnt, set_Reads.Asked, set_Reads.Learnt, next-reads.Asked, next-reads.Learnt, reference-reads.Asked, reference-reads.Learnt, inside-reads.Asked, inside-reads.Learnt, columns-below t, columns.Post)

columns-returns : (t : ℕ) → columns-lts.Need-returns-then-tag-eq-VARIABLE (columns-claims t) (columns-at t) columns.Post
columns-returns t c =
    columned-variable c.args.work.now c.args.p _ c.word-tag.ensures c.args.x c.requires.1 c.args.env.now c.if-tag-eq-VARIABLE.true _ c.word-k.ensures _ _ _ c.found.ensures c.next.ensures c.set.ensures

columns-columns-requires : (t : ℕ) → columns-lts.Need-columns-requires (columns-claims t) (columns-at t) columns.Post
columns-columns-requires t c κs =
    let l = part_falls c.args.work.now c.args.p _ c.word-tag.ensures 3 _ (λ z. omega arith) c.reference-head.ensures in (omega (arith, l, c.requires.0), rw c.inside.ensures (inside-words c.args.work.now c.args.x))

columns-columns-requires-2 : (t : ℕ) → columns-lts.Need-columns-requires-then-tag-eq-ELLIPSIS (columns-claims t) (columns-at t) columns.Post
columns-columns-requires-2 t c κs =
    let l = part_falls c.args.work.now c.args.p _ c.word-tag.ensures 2 _ (λ z. omega (arith, c.if-tag-eq-ELLIPSIS.true)) c.reference-rest.ensures in (omega (arith, l, c.requires.0), rw c.next-then-tag-eq-ELLIPSIS.ensures (advance-words c.args.x 1 c.requires.1))

columns-returns-2 : (t : ℕ) → columns-lts.Need-returns-then-tag-eq-ELLIPSIS (columns-claims t) (columns-at t) columns.Post
columns-returns-2 t c =
    columned-ellipsis c.args.work.now c.args.p _ c.word-tag.ensures c.args.x c.requires.1 c.args.env.now _ _ c.reference-rest.ensures c.reference-head.ensures _ _ c.if-tag-eq-ELLIPSIS.true _ _ _ _ c.inside.ensures c.next-then-tag-eq-ELLIPSIS.ensures c.columns.ensures c.columns-then-tag-eq-ELLIPSIS.ensures

columns-returns-3 : (t : ℕ) → columns-lts.Need-returns-then-tag-ne-PAIR (columns-claims t) (columns-at t) columns.Post
columns-returns-3 t c =
    columned-none c.args.work.now c.args.p _ c.word-tag.ensures c.args.x c.requires.1 c.args.env.now c.if-tag-eq-VARIABLE.false c.if-tag-ne-PAIR.true c.if-tag-eq-ELLIPSIS.false

columns-columns-requires-3 : (t : ℕ) → columns-lts.Need-columns-y-requires (columns-claims t) (columns-at t) columns.Post
columns-columns-requires-3 t c κs =
    let l = part_falls c.args.work.now c.args.p _ c.word-tag.ensures 3 _ (λ z. omega arith) c.reference-head.ensures in (omega (arith, l, c.requires.0), c.requires.1)

columns-columns-requires-4 : (t : ℕ) → columns-lts.Need-columns-requires-2 (columns-claims t) (columns-at t) columns.Post
columns-columns-requires-4 t c κs =
    let l = part_falls c.args.work.now c.args.p _ c.word-tag.ensures 2 _ (λ z. omega arith) c.reference-rest.ensures in (omega (arith, l, c.requires.0), pair-words c.args.work.now c.args.p _ c.word-tag.ensures c.args.x c.requires.1 c.args.env.now _ _ c.reference-rest.ensures c.reference-head.ensures _ c.args.env.now c.if-tag-ne-PAIR.false _ c.args.x c.columns-y.ensures)

columns-returns-4 : (t : ℕ) → columns-lts.Need-returns (columns-claims t) (columns-at t) columns.Post
columns-returns-4 t c =
    columned-pair c.args.work.now c.args.p _ c.word-tag.ensures c.args.x c.requires.1 c.args.env.now _ _ c.reference-rest.ensures c.reference-head.ensures _ _ c.if-tag-ne-PAIR.false _ _ c.columns-y.ensures c.columns-2.ensures

pub +columns_spec : {M : Type 1} → statement M
+columns_spec = close μ-columns λ t. columns-lts.spec (columns-claims t)
    (columns-at t)
    columns.Post
    (λ c κs. search rules)  -- columns-word-requires
    (λ c κs. search rules)  -- columns-word-requires-2
    (λ c κs. search rules)  -- columns-found-requires
    (λ c κs. search rules)  -- columns-set-requires
    (λ c κs. search rules)  -- columns-next-requires
    (columns-returns t)
    (λ c κs. search rules)  -- columns-reference-requires
    (λ c κs. search rules)  -- columns-reference-requires-2
    (λ c κs. search rules)  -- columns-inside-requires
    (columns-columns-requires t)
    (λ c κs. search rules)  -- columns-next-requires-2
    (columns-columns-requires-2 t)
    (columns-returns-2 t)
    (columns-returns-3 t)
    (columns-columns-requires-3 t)
    (columns-columns-requires-4 t)
    (columns-returns-4 t)
