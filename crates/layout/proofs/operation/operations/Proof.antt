-- `operations` answers ground 10: the first element is a list of distinct names.
use borrow.Author.Rules.{rules}
use Rattle.layout.proofs.operation.operations.Statement.{statement}
use Rattle.layout.proofs.operation.operations.Tie as tie
use mathlib.Core.Path.{sym, ap, subst, ◌∙◌}
use Prim.Native.Nat.{ℕ}
use native.Mathlib.Omega.{arith}
use Rattle.words.specs.Limits.{operations_most}
use Rattle.recipe.specs.Tree.{names}
use Rattle.recipe.specs.TreeFrom.{tree_from}
use Rattle.recipe.specs.Layout.{Layout}
use Rattle.recipe.proofs.LayoutLaws.{layout}
use Rattle.layout.specs.Places.{Places, numbers}
use Rattle.layout.specs.DistinctNames.{are_names, passes}
use Rattle.layout.specs.Walk.{ListItem, item-words, first-item, by_first, places-first}

laid : (c : tie.Start) → Layout c.args.table.now
laid c = layout c.args.table.now c.requires.0

head-requires : tie.Need-head-requires
head-requires c κs = let l = laid c.before.before in item-words 0 l (omega (arith, l.least))

distinct-names-requires : tie.Need-distinct_names-requires
distinct-names-requires c κs =
    (subst (ListItem c.args.table.now) (sym c.head.ensures) (first-item (laid c.before.before.before.before)), omega arith, c.requires.1, c.requires.2)

returns : tie.Need-returns
returns c =
    let first = c.head.ensures in
    let ws = c.args.table.now in
    let places = c.distinct_names.new.places in
    let tested = c.distinct_names.ensures in (
      tested.0 ∙ ap (λ (i : ℕ). are_names (passes 0) operations_most (tree_from ws i)) first ∙ sym (by_first (laid c.before.before.before.before.before.before.before)),
      λ q. places-first (laid c.before.before.before.before.before.before.before) places (subst (λ (i : ℕ). Places places (numbers (names (tree_from ws i)))) first (tested.1 q)),
    )

pub operations_spec : {M : Type 1} → statement M
operations_spec =
    tie.close
    (tie.spec
    head-requires
    distinct-names-requires
    (λ c. search rules)  -- same-length
    returns)
