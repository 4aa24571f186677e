-- The proof of the cycle {driven}. The measure is the cell.
use borrow.Author.Rules.{rules}
use Prim.Native.Nat.{ℕ, ◌<◌}
use borrow.Fn.Kinds.{In}
use borrow.Fn.PlainCycle.{Measures, is, falls, and}
use Rattle.rule_cells.proofs.templates.driven.Reads as driven
use Rattle.rule_cells.proofs.templates.driven.Kinds as driven-kinds
use Rattle.rule_cells.proofs.templates.+driven.Lts-driven as driven-lts
use Rattle.arena.proofs.cells.reference.Reads as reference-reads
use Rattle.arena.proofs.cells.word.Reads as word-reads
use Rattle.rule_cells.proofs.templates.+driven.{statement}
use Rattle.rule_cells.proofs.templates.+driven.Tie.{close}
use Rattle.rule_cells.specs.Drive.{driven-variable, driven-other, driven-falls, driven-first, driven-rest}
use mathlib.Core.Path.{refl, sym, ◌∙◌}
use native.Mathlib.Omega.{arith}

abbrev μ-driven : Measures 1 driven-kinds.ps ℕ
μ-driven κs a =
    a.1.0

abbrev driven-at : ℕ → In 1 driven-kinds.ps
driven-at t = and 1 driven-kinds.ps (is 1 driven-kinds.ps μ-driven t) driven.Pre

abbrev driven-below : ℕ → In 1 driven-kinds.ps
driven-below t = and 1 driven-kinds.ps (falls 1 driven-kinds.ps ◌<◌ μ-driven t) driven.Pre

abbrev driven-claims : ℕ → driven-lts.Claims
driven-claims t = (word-reads.Asked, word-reads.Learnt, reference-reads.Asked, reference-reads.Learnt, driven-below t, driven.Post)

driven-returns : (t : ℕ) → driven-lts.Need-returns-then-tag-eq-VARIABLE (driven-claims t) (driven-at t) driven.Post
driven-returns t c =
    let a = c.args in driven-variable a.work.now a.at a.j _ (sym c.word-tag.ensures ∙ c.if-tag-eq-VARIABLE.true) c.word.ensures

driven-returns-2 : (t : ℕ) → driven-lts.Need-returns-then-tag-lt-PAIR (driven-claims t) (driven-at t) driven.Post
driven-returns-2 t c =
    let a = c.args in driven-other a.work.now a.at a.j _ c.word-tag.ensures c.if-tag-eq-VARIABLE.false (λ z. omega (arith, c.if-tag-lt-PAIR.true)) (λ z. omega (arith, c.if-tag-lt-PAIR.true))

driven-returns-3 : (t : ℕ) → driven-lts.Need-returns-then-tag-gt-ELLIPSIS (driven-claims t) (driven-at t) driven.Post
driven-returns-3 t c =
    let a = c.args in driven-other a.work.now a.at a.j _ c.word-tag.ensures c.if-tag-eq-VARIABLE.false (λ z. omega (arith, c.if-tag-gt-ELLIPSIS.true)) (λ z. omega (arith, c.if-tag-gt-ELLIPSIS.true))

driven-add-inner : (t : ℕ) → driven-lts.Need-overflow_add-inner (driven-claims t) (driven-at t) driven.Post
driven-add-inner t c =
    let a = c.args in omega (arith, c.requires.1, (driven-falls a.work.now a.at a.j _ _ _ c.word-tag.ensures (omega (arith, c.if-tag-lt-PAIR.false)) (omega (arith, c.if-tag-gt-ELLIPSIS.false)) c.reference-first.ensures refl).0)

driven-driven-requires : (t : ℕ) → driven-lts.Need-driven-requires (driven-claims t) (driven-at t) driven.Post
driven-driven-requires t c κs =
    let a = c.args in (omega (arith, (driven-falls a.work.now a.at a.j _ _ _ c.word-tag.ensures (omega (arith, c.if-tag-lt-PAIR.false)) (omega (arith, c.if-tag-gt-ELLIPSIS.false)) c.reference-first.ensures refl).0), omega (arith, c.requires.1, (driven-falls a.work.now a.at a.j _ _ _ c.word-tag.ensures (omega (arith, c.if-tag-lt-PAIR.false)) (omega (arith, c.if-tag-gt-ELLIPSIS.false)) c.reference-first.ensures refl).0))

driven-returns-4 : (t : ℕ) → driven-lts.Need-returns-then-driven (driven-claims t) (driven-at t) driven.Post
driven-returns-4 t c =
    let a = c.args in driven-first a.work.now a.at a.j _ _ _ c.word-tag.ensures (omega (arith, c.if-tag-lt-PAIR.false)) (omega (arith, c.if-tag-gt-ELLIPSIS.false)) c.reference-first.ensures refl (sym c.if-driven.true ∙ c.driven.ensures)

driven-driven-requires-2 : (t : ℕ) → driven-lts.Need-driven-requires-2 (driven-claims t) (driven-at t) driven.Post
driven-driven-requires-2 t c κs =
    let a = c.args in (omega (arith, (driven-falls a.work.now a.at a.j _ _ _ c.word-tag.ensures (omega (arith, c.if-tag-lt-PAIR.false)) (omega (arith, c.if-tag-gt-ELLIPSIS.false)) c.reference-first.ensures c.reference-rest.ensures).1), omega (arith, c.requires.1, (driven-falls a.work.now a.at a.j _ _ _ c.word-tag.ensures (omega (arith, c.if-tag-lt-PAIR.false)) (omega (arith, c.if-tag-gt-ELLIPSIS.false)) c.reference-first.ensures c.reference-rest.ensures).1))

driven-returns-5 : (t : ℕ) → driven-lts.Need-returns (driven-claims t) (driven-at t) driven.Post
driven-returns-5 t c =
    let a = c.args in driven-rest a.work.now a.at a.j _ _ _ c.word-tag.ensures (omega (arith, c.if-tag-lt-PAIR.false)) (omega (arith, c.if-tag-gt-ELLIPSIS.false)) c.reference-first.ensures c.reference-rest.ensures _ (sym c.if-driven.false ∙ c.driven.ensures) c.driven-2.ensures

pub +driven_spec : {M : Type 1} → statement M
+driven_spec = close μ-driven λ t. driven-lts.spec (driven-claims t)
    (driven-at t)
    driven.Post
    (λ c κs. search rules)  -- driven-word-requires
    (λ c κs. search rules)  -- driven-word-requires-2
    (driven-returns t)
    (driven-returns-2 t)
    (driven-returns-3 t)
    (λ c κs. search rules)  -- driven-reference-requires
    (driven-add-inner t)
    (driven-driven-requires t)
    (driven-returns-4 t)
    (λ c κs. search rules)  -- driven-reference-requires-2
    (driven-driven-requires-2 t)
    (driven-returns-5 t)
