-- The cycle of `walk::all` and `expression`: every part of an element stands behind its first item.
use Prim.Native.Nat.{ℕ, ◌<◌, ◌-◌, ◌+◌, ◌*◌, ◌≤◌}
use borrow.Fn.Kinds.{In}
use borrow.Fn.PlainCycle.{Measures, is, falls, and}
use Rattle.supplier.proofs.walk.all.Reads as all
use Rattle.supplier.proofs.walk.all.Kinds as all_kinds
use Rattle.supplier.proofs.walk.+all_expression.Lts-all as all-lts
use Rattle.supplier.proofs.walk.expression.Reads as expression
use Rattle.supplier.proofs.walk.expression.Kinds as expression-kinds
use Rattle.supplier.proofs.walk.+all_expression.Lts-expression as expression-lts
use Rattle.layout.proofs.item.head.Reads as head-reads
use Rattle.layout.proofs.item.kind.Reads as kind-reads
use Rattle.layout.proofs.item.tail.Reads as tail-reads
use Rattle.layout.proofs.item.is_list_kind.Reads as is-list-kind-reads
use Rattle.supplier.proofs.front.constant.Reads as constant-reads
use Rattle.supplier.proofs.grammar.list.Reads as list-reads
use Rattle.supplier.proofs.walk.joined.Reads as joined-reads
use Rattle.supplier.proofs.walk.left.Reads as left-reads
use Rattle.supplier.proofs.walk.quoted_name.Reads as quoted-name-reads
use Rattle.supplier.proofs.walk.reference.Reads as reference-reads
use Rattle.supplier.proofs.walk.+all_expression.{statement}
use Rattle.supplier.proofs.walk.+all_expression.Tie.{close}
use Rattle.std.proofs.Common.{Ok}
use mathlib.Core.Path.{◌≡◌, refl, sym, ◌∙◌}
use native.Mathlib.Omega.{arith}
use lib.ListN.{length}
use borrow.Author.Rules.{rules}
use borrow.Author.Tests.{not-true, not-false}
use Rattle.supplier.specs.Items.{HeldAll}
use Rattle.supplier.specs.ItemsLaws.{held_in, all_in, name-held, head-held, tail-held}
use Rattle.supplier.specs.Scope.{Kept}
use Rattle.supplier.specs.Told.{found_of, Within}
use Rattle.supplier.specs.StartLaws.{Walking, walking_start, walking-next, walking-end, next-within, walks-name, walks-quoted, walks-constant, list_held, start-held, walks-list}

abbrev μ-all : Measures 6 all_kinds.ps ℕ
μ-all κs a = 2 * (length a.0.now - a.1.1.1.1.1.1.0.place.i)

abbrev μ-expression : Measures 6 expression-kinds.ps ℕ
μ-expression κs a = 2 * (length a.0.now - a.1.1.1.1.1.1.0.i) + 1

abbrev all-at : ℕ → In 6 all_kinds.ps
all-at t = and 6 all_kinds.ps (is 6 all_kinds.ps μ-all t) all.Pre

abbrev all-below : ℕ → In 6 all_kinds.ps
all-below t = and 6 all_kinds.ps (falls 6 all_kinds.ps ◌<◌ μ-all t) all.Pre

abbrev expression-at : ℕ → In 6 expression-kinds.ps
expression-at t = and 6 expression-kinds.ps (is 6 expression-kinds.ps μ-expression t) expression.Pre

abbrev expression-below : ℕ → In 6 expression-kinds.ps
expression-below t = and 6 expression-kinds.ps (falls 6 expression-kinds.ps ◌<◌ μ-expression t) expression.Pre

abbrev all-Inv-loop : all-lts.invariant-loop-from
all-Inv-loop items words theirs ours operations scope₀ from j₀ found₀ scope j found =
    HeldAll items j × Walking theirs ours operations items from.place.quoted scope₀ from.place.top from.place.i j (found_of words from.found) (found_of words found) × Within words found
    × Kept from.place.top scope₀ scope × (length scope ≡ length scope₀) × (from.place.i ≤ j)

abbrev all-μ-loop : all-lts.decreases-loop-from
all-μ-loop items words theirs ours operations scope₀ from j₀ found₀ scope j found = length items - j

abbrev all-claims : ℕ → all-lts.Claims
all-claims t = (kind-reads.Asked, kind-reads.Learnt, head-reads.Asked, head-reads.Learnt, left-reads.Asked, left-reads.Learnt, expression-below t, expression.Post, joined-reads.Asked, joined-reads.Learnt, tail-reads.Asked, tail-reads.Learnt)

abbrev expression-claims : ℕ → expression-lts.Claims
expression-claims t = (kind-reads.Asked, kind-reads.Learnt, head-reads.Asked, head-reads.Learnt, quoted-name-reads.Asked, quoted-name-reads.Learnt, reference-reads.Asked, reference-reads.Learnt, is-list-kind-reads.Asked, is-list-kind-reads.Learnt, tail-reads.Asked, tail-reads.Learnt, constant-reads.Asked, constant-reads.Learnt, list-reads.Asked, list-reads.Learnt, all-below t, all.Post)

all-loop-holds : (t : ℕ) → all-lts.Need-loop-from-init (all-claims t) (all-at t) all.Post all-Inv-loop all-μ-loop
all-loop-holds t c =
    (c.requires.1.0, walking_start _ _ _ _ c.args.words.now _ _ _ _ _, c.requires.1.3, (λ k l. refl), refl, omega arith)

all-kind-requires : (t : ℕ) → all-lts.Need-kind-requires (all-claims t) (all-at t) all.Post all-Inv-loop all-μ-loop
all-kind-requires t c κs =
    all_in _ _ c.loop-from.invariant.0

all-head-requires : (t : ℕ) → all-lts.Need-head-requires (all-claims t) (all-at t) all.Post all-Inv-loop all-μ-loop
all-head-requires t c κs =
    all_in _ _ c.loop-from.invariant.0

all-left-requires : (t : ℕ) → all-lts.Need-left-rest-requires (all-claims t) (all-at t) all.Post all-Inv-loop all-μ-loop
all-left-requires t c κs =
    c.loop-from.invariant.2

all-expression-requires : (t : ℕ) → all-lts.Need-expression-next-requires (all-claims t) (all-at t) all.Post all-Inv-loop all-μ-loop
all-expression-requires t c κs =
    let pre' = c.requires in
    let h = head-held _ _ _ c.kind.ensures c.loop-from-test.true c.loop-from.invariant.0 _ c.head.ensures in (omega (arith, pre'.0, h.1, c.loop-from.invariant.5, all_in _ _ c.loop-from.invariant.0), (h.0, (omega (arith, pre'.1.1.0, h.1, c.loop-from.invariant.5), pre'.1.1.1, omega (arith, pre'.1.1.2, c.loop-from.invariant.4)), pre'.1.2))

all-joined-requires : (t : ℕ) → all-lts.Need-joined-found-requires (all-claims t) (all-at t) all.Post all-Inv-loop all-μ-loop
all-joined-requires t c κs =
    (c.loop-from.invariant.2, next-within _ _ _ _ _ _ _ _ _ _ _ _ c.loop-from.invariant.1 _ c.kind.ensures c.loop-from-test.true _ c.head.ensures _ c.loop-from.invariant.3 _ c.left-rest.ensures _ c.expression-next.ensures.0 (head-held _ _ _ c.kind.ensures c.loop-from-test.true c.loop-from.invariant.0 _ c.head.ensures).0)

all-tail-requires : (t : ℕ) → all-lts.Need-tail-j-requires (all-claims t) (all-at t) all.Post all-Inv-loop all-μ-loop
all-tail-requires t c κs =
    all_in _ _ c.loop-from.invariant.0

all-loop-less : (t : ℕ) → all-lts.Need-loop-from-smaller (all-claims t) (all-at t) all.Post all-Inv-loop all-μ-loop
all-loop-less t c =
    omega (arith, (tail-held _ _ _ c.kind.ensures c.loop-from-test.true c.loop-from.invariant.0 _ c.tail-j.ensures).1, all_in _ _ c.loop-from.invariant.0)

all-loop-again : (t : ℕ) → all-lts.Need-loop-from-preserved (all-claims t) (all-at t) all.Post all-Inv-loop all-μ-loop
all-loop-again t c =
    let k = c.kind.ensures in
    let again = c.loop-from-test.true in
    let stays = c.loop-from.invariant in
    let n = tail-held _ _ _ k again stays.0 _ c.tail-j.ensures in (
      n.0,
      walking-next _ _ _ _ _ _ _ _ _ _ _ _ stays.1 _ k again _ c.head.ensures _ stays.3 _ c.left-rest.ensures _
          c.expression-next.ensures.0 _ c.joined-found.ensures _ c.tail-j.ensures,
      c.joined-found.ensures.within,
      (λ m l. c.expression-next.ensures.1 m l ∙ stays.3 m l),
      c.expression-next.auto.scope ∙ stays.4,
      omega (arith, stays.5, n.1),
    )

all-same-length : (t : ℕ) → all-lts.Need-shape_of-scope (all-claims t) (all-at t) all.Post all-Inv-loop all-μ-loop
all-same-length t c =
    c.loop-from.invariant.4

all-returns : (t : ℕ) → all-lts.Need-returns (all-claims t) (all-at t) all.Post all-Inv-loop all-μ-loop
all-returns t c =
    (walking-end _ _ _ _ _ _ _ _ _ _ _ _ c.loop-from.invariant.1 _ c.kind.ensures c.loop-from-test.false c.loop-from.invariant.2, c.loop-from.invariant.3)

expression-kind-requires : (t : ℕ) → expression-lts.Need-kind-k-requires (expression-claims t) (expression-at t) expression.Post
expression-kind-requires t c κs =
    held_in _ _ c.requires.1.0

expression-head-requires : (t : ℕ) → expression-lts.Need-head-n-requires (expression-claims t) (expression-at t) expression.Post
expression-head-requires t c κs =
    held_in _ _ c.requires.1.0

expression-quoted-name-requires : (t : ℕ) → expression-lts.Need-quoted_name-requires (expression-claims t) (expression-at t) expression.Post
expression-quoted-name-requires t c κs =
    let pre' = c.requires in
    pre'.1.2.0 _ (name-held _ _ _ c.kind-k.ensures pre'.1.0 c.if-k-eq-NAME.true _ c.head-n.ensures)

expression-returns : (t : ℕ) → expression-lts.Need-returns-then-at (expression-claims t) (expression-at t) expression.Post
expression-returns t c =
    (walks-quoted _ _ _ _ _ _ _ _ _ _ c.kind-k.ensures _ c.if-k-eq-NAME.true _ c.head-n.ensures c.if-at.true c.quoted_name.ensures, λ k l. refl)

expression-reference-requires : (t : ℕ) → expression-lts.Need-reference-requires (expression-claims t) (expression-at t) expression.Post
expression-reference-requires t c κs =
    let pre' = c.requires in
    (pre'.1.2, name-held _ _ _ c.kind-k.ensures pre'.1.0 c.if-k-eq-NAME.true _ c.head-n.ensures, omega (arith, pre'.1.1.0, pre'.1.1.1, pre'.1.1.2, held_in _ _ pre'.1.0))

expression-returns-2 : (t : ℕ) → expression-lts.Need-returns-then-k-eq-NAME (expression-claims t) (expression-at t) expression.Post
expression-returns-2 t c =
    (walks-name _ _ _ _ _ _ _ _ _ _ c.kind-k.ensures _ c.if-k-eq-NAME.true _ c.head-n.ensures _ c.if-at.false c.reference.ensures, λ k l. refl)

expression-head-requires-2 : (t : ℕ) → expression-lts.Need-head-requires (expression-claims t) (expression-at t) expression.Post
expression-head-requires-2 t c κs =
    held_in _ _ c.requires.1.0

expression-tail-requires : (t : ℕ) → expression-lts.Need-tail-requires (expression-claims t) (expression-at t) expression.Post
expression-tail-requires t c κs =
    held_in _ _ c.requires.1.0

expression-returns-3 : (t : ℕ) → expression-lts.Need-returns-then-not-is_list_kind (expression-claims t) (expression-at t) expression.Post
expression-returns-3 t c =
    (walks-constant _ _ _ _ _ _ _ _ _ _ c.kind-k.ensures _ (sym c.is_list_kind.ensures ∙ not-true _ c.if-not-is_list_kind.true-raw) c.if-k-eq-NAME.false _ _ c.head.ensures c.tail.ensures c.constant.ensures, λ k l. refl)

expression-list-requires : (t : ℕ) → expression-lts.Need-list-from-requires (expression-claims t) (expression-at t) expression.Post
expression-list-requires t c κs =
    (list_held c.args.theirs.now c.args.ours.now c.args.operations.now _ c.args.words.now c.args.at.quoted c.args.scope.now c.args.at.top _ _ c.kind-k.ensures (Ok 0) (sym c.is_list_kind.ensures ∙ not-false _ c.if-not-is_list_kind.false-raw) c.requires.1.0, c.requires.1.1)

expression-all-requires : (t : ℕ) → expression-lts.Need-all-requires (expression-claims t) (expression-at t) expression.Post
expression-all-requires t c κs =
    let s = c.list-from.ensures in (omega (arith, c.requires.0, s.1.later), (start-held c.args.theirs.now c.args.ours.now c.args.operations.now _ c.args.words.now c.args.at.quoted c.args.scope.now c.args.at.top _ _ c.kind-k.ensures (Ok 0) (sym c.is_list_kind.ensures ∙ not-false _ c.if-not-is_list_kind.false-raw) c.args.at refl refl refl _ _ s c.requires.1.0, (s.1.room, c.requires.1.1.1, omega (arith, c.requires.1.1.2, c.list-from.auto.scope)), c.requires.1.2, s.1.within))

expression-same-length-2 : (t : ℕ) → expression-lts.Need-shape_of-scope (expression-claims t) (expression-at t) expression.Post
expression-same-length-2 t c =
    c.all.auto.scope ∙ c.list-from.auto.scope

expression-returns-4 : (t : ℕ) → expression-lts.Need-returns (expression-claims t) (expression-at t) expression.Post
expression-returns-4 t c =
    (walks-list _ _ _ _ _ _ _ _ _ _ c.kind-k.ensures _ (sym c.is_list_kind.ensures ∙ not-false _ c.if-not-is_list_kind.false-raw) c.args.at refl refl refl _ _ c.list-from.ensures c.all.ensures.0, λ k l. c.all.ensures.1 k (omega (arith, c.list-from.ensures.1.more)) ∙ c.list-from.ensures.1.kept k l)

pub +all_expression_spec : {M : Type 1} → statement M
+all_expression_spec =
    close μ-all μ-expression
    (λ t. all-lts.spec (all-claims t)
    (all-at t)
    all.Post
    all-Inv-loop
    all-μ-loop
    (all-loop-holds t)
    (all-kind-requires t)
    (all-head-requires t)
    (all-left-requires t)
    (all-expression-requires t)
    (all-joined-requires t)
    (all-tail-requires t)
    (all-loop-less t)
    (all-loop-again t)
    (all-same-length t)
    (all-returns t))
    λ t. expression-lts.spec (expression-claims t)
    (expression-at t)
    expression.Post
    (expression-kind-requires t)
    (expression-head-requires t)
    (expression-quoted-name-requires t)
    (expression-returns t)
    (expression-reference-requires t)
    (λ c. search rules)  -- expression-same-length
    (expression-returns-2 t)
    (λ c κs. search rules)  -- expression-is-list-kind-requires
    (expression-head-requires-2 t)
    (expression-tail-requires t)
    (λ c κs. search rules)  -- expression-constant-requires
    (expression-returns-3 t)
    (expression-list-requires t)
    (expression-all-requires t)
    (expression-same-length-2 t)
    (expression-returns-4 t)
