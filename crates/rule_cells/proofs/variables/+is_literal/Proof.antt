-- The proof of the cycle {is_literal}. The measure is the list; what is said of the list that is left is said of all.
use Prim.Native.Nat.{ℕ, ◌<◌, ◌≤◌}
use borrow.Fn.Kinds.{In}
use borrow.Fn.PlainCycle.{Measures, is, falls, and}
use Rattle.rule_cells.proofs.variables.is_literal.Reads as is-literal
use Rattle.rule_cells.proofs.variables.is_literal.Kinds as is-literal-kinds
use Rattle.rule_cells.proofs.variables.+is_literal.Lts-is_literal as is-literal-lts
use Rattle.arena.proofs.cells.reference.Reads as reference-reads
use Rattle.arena.proofs.cells.word.Reads as word-reads
use Rattle.resolution.proofs.names.same_names.Reads as same-names-reads
use Rattle.rule_cells.proofs.variables.+is_literal.{statement}
use Rattle.rule_cells.proofs.variables.+is_literal.Tie.{close}
use borrow.Author.Rules.{rules}
use mathlib.Core.Path.{◌≡◌, sym, ◌∙◌}
use mathlib.Core.Bool.{Bool, true, false}
use native.Mathlib.Omega.{arith}
use Rattle.words.specs.Lists.{any_of}
use Rattle.recipe.specs.Name.{same}
use Rattle.recipe.specs.Tree.{names}
use Rattle.arena.specs.Offsets.{KIND}
use Rattle.arena.specs.Arena.{word_at, name_at, tree_at}
use Rattle.arena.specs.ListLaws.{pair-falls}
use Rattle.rule_cells.specs.VariableLaws.{any_name, any_head, any-rest, any-other}

abbrev μ-is-literal : Measures 1 is-literal-kinds.ps ℕ
μ-is-literal κs a =
    a.1.0

abbrev is-literal-at : ℕ → In 1 is-literal-kinds.ps
is-literal-at t =
    and 1 is-literal-kinds.ps (is 1 is-literal-kinds.ps μ-is-literal t) is-literal.Pre

abbrev is-literal-below : ℕ → In 1 is-literal-kinds.ps
is-literal-below t =
    and 1 is-literal-kinds.ps (falls 1 is-literal-kinds.ps ◌<◌ μ-is-literal t) is-literal.Pre

abbrev is-literal-claims : ℕ → is-literal-lts.Claims
is-literal-claims t = (word-reads.Asked, word-reads.Learnt, reference-reads.Asked, reference-reads.Learnt, is-literal-below t, is-literal.Post, same-names-reads.Asked, same-names-reads.Learnt)

abbrev is-literal-Inv-loop : is-literal-lts.invariant-loop-kind
is-literal-Inv-loop work list node w at₀ kind₀ at kind =
    (kind ≡ word_at work at KIND) × (at ≤ list) × ((b : Bool) → b ≡ any_of (same (name_at work node w)) (names (tree_at work at w)) → b ≡ any_of (same (name_at work node w)) (names (tree_at work list w)))

abbrev is-literal-μ-loop : is-literal-lts.decreases-loop-kind
is-literal-μ-loop work list node w at₀ kind₀ at kind =
    at

is-literal-loop-holds : (t : ℕ) → is-literal-lts.Need-loop-kind-init (is-literal-claims t) (is-literal-at t) is-literal.Post is-literal-Inv-loop is-literal-μ-loop
is-literal-loop-holds t c =
    (c.word-kind.ensures, omega arith, λ b h. h)

is-literal-is-literal-requires : (t : ℕ) → is-literal-lts.Need-is_literal-requires (is-literal-claims t) (is-literal-at t) is-literal.Post is-literal-Inv-loop is-literal-μ-loop
is-literal-is-literal-requires t c κs =
    (omega (arith, c.requires.0, c.loop-kind.invariant.1, pair-falls c.args.work.now c.loop-kind.at 2 (sym c.loop-kind.invariant.0 ∙ c.loop-kind-test.true), c.reference-first.ensures), tt)

is-literal-returns : (t : ℕ) → is-literal-lts.Need-returns-then-is_literal (is-literal-claims t) (is-literal-at t) is-literal.Post is-literal-Inv-loop is-literal-μ-loop
is-literal-returns t c =
    let a = c.args in
    c.loop-kind.invariant.2 true
    (any_head a.work.now c.loop-kind.at a.w (same (name_at a.work.now a.node a.w)) _ (sym c.loop-kind.invariant.0 ∙ c.loop-kind-test.true) c.reference-first.ensures (sym c.if-is_literal.true ∙ c.is_literal.ensures))

is-literal-loop-less : (t : ℕ) → is-literal-lts.Need-loop-kind-smaller (is-literal-claims t) (is-literal-at t) is-literal.Post is-literal-Inv-loop is-literal-μ-loop
is-literal-loop-less t c =
    omega (arith, pair-falls c.args.work.now c.loop-kind.at 1 (sym c.loop-kind.invariant.0 ∙ c.loop-kind-test.true), c.reference-at.ensures)

is-literal-loop-again : (t : ℕ) → is-literal-lts.Need-loop-kind-preserved (is-literal-claims t) (is-literal-at t) is-literal.Post is-literal-Inv-loop is-literal-μ-loop
is-literal-loop-again t c =
    let a = c.args in
    let e = sym c.loop-kind.invariant.0 ∙ c.loop-kind-test.true in (
      c.word-kind-in-loop-kind.ensures,
      omega (arith, c.loop-kind.invariant.1, pair-falls a.work.now c.loop-kind.at 1 e, c.reference-at.ensures),
      λ b h. c.loop-kind.invariant.2 b
          (any-rest a.work.now c.loop-kind.at a.w (same (name_at a.work.now a.node a.w)) _ _ b e c.reference-first.ensures c.reference-at.ensures (sym c.if-is_literal.false ∙ c.is_literal.ensures) h),
    )

is-literal-returns-2 : (t : ℕ) → is-literal-lts.Need-returns-then-kind-eq-NAME (is-literal-claims t) (is-literal-at t) is-literal.Post is-literal-Inv-loop is-literal-μ-loop
is-literal-returns-2 t c =
    let a = c.args in
    c.loop-kind.invariant.2 c.same_names.result
    (any_name a.work.now c.loop-kind.at a.w (same (name_at a.work.now a.node a.w)) _ (sym c.loop-kind.invariant.0 ∙ c.if-kind-eq-NAME.true) c.same_names.ensures)

is-literal-returns-3 : (t : ℕ) → is-literal-lts.Need-returns (is-literal-claims t) (is-literal-at t) is-literal.Post is-literal-Inv-loop is-literal-μ-loop
is-literal-returns-3 t c =
    let a = c.args in
    c.loop-kind.invariant.2 false
    (any-other a.work.now c.loop-kind.at a.w (same (name_at a.work.now a.node a.w)) (λ z. c.if-kind-eq-NAME.false (c.loop-kind.invariant.0 ∙ z)) (λ z. c.loop-kind-test.false (c.loop-kind.invariant.0 ∙ z)))

pub +is_literal_spec : {M : Type 1} → statement M
+is_literal_spec = close μ-is-literal λ t. is-literal-lts.spec (
  word-reads.Asked,
  word-reads.Learnt,
  reference-reads.Asked,
  reference-reads.Learnt,
  is-literal-below t,
  is-literal.Post,
  same-names-reads.Asked,
  same-names-reads.Learnt,
)
    (is-literal-at t)
    is-literal.Post
    is-literal-Inv-loop
    is-literal-μ-loop
    (λ c κs. search rules)  -- is-literal-word-requires
    (is-literal-loop-holds t)
    (λ c κs. search rules)  -- is-literal-reference-requires
    (is-literal-is-literal-requires t)
    (is-literal-returns t)
    (λ c κs. search rules)  -- is-literal-reference-requires-2
    (λ c κs. search rules)  -- is-literal-word-requires-2
    (is-literal-loop-less t)
    (is-literal-loop-again t)
    (λ c κs. search rules)  -- is-literal-same-names-requires
    (is-literal-returns-2 t)
    (is-literal-returns-3 t)
