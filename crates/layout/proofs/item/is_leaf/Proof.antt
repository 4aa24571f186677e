-- `is_leaf` answers the test of an item that is no pair: one law of `ItemTests` for each way.
use borrow.Author.Rules.{rules}
use Rattle.layout.proofs.item.is_leaf.Statement.{statement}
use Rattle.layout.proofs.item.is_leaf.Tie as tie
use mathlib.Core.Path.{◌≡◌, ap, sym, ◌∙◌}
use Prim.Native.Nat.{◌<◌}
use native.Mathlib.Omega.{arith}
use lib.Dec.{eqb, ltb}
use Rattle.words.specs.Limits.{places_most, names_most}
use Rattle.words.specs.Lists.{within}
use Rattle.recipe.specs.Table.{kind_at}
use Rattle.recipe.specs.TreeFrom.{tail_at}
use Rattle.layout.specs.ItemTests.{item-decimal, item-unused, item-empty, item-integer, item-boolean, item-name, item-other}

returns : tie.Need-returns-then-k-eq-DECIMAL
returns c =
    let a = c.args in let ws = a.table.now in
    λ n. c.are_places.ensures ∙ ap (within 1 places_most) c.tail-last.ensures ∙ sym (item-decimal ws n a.i (sym c.kind-k.ensures ∙ c.if-k-eq-DECIMAL.true))

returns-2 : tie.Need-returns-then-last-ne0
returns-2 c =
    let a = c.args in let ws = a.table.now in
    let t : tail_at ws a.i ≡ 0 → ⊥ = λ e. c.if-last-ne0.true (c.tail-last.ensures ∙ e) in
    λ n. sym (item-unused ws n a.i c.requires.1 (λ e. c.if-k-eq-DECIMAL.false (c.kind-k.ensures ∙ e)) t)

returns-3 : tie.Need-returns-then-k-eq-EMPTY
returns-3 c =
    let a = c.args in let ws = a.table.now in
    λ n. ap (λ w. eqb w 0) c.head-word.ensures ∙ sym (item-empty ws n a.i (omega arith) (omega arith))

returns-4 : tie.Need-returns-then-k-eq-INTEGER
returns-4 c =
    let a = c.args in let ws = a.table.now in
    λ n. sym (item-integer ws n a.i (omega arith) (omega arith))

returns-5 : tie.Need-returns-then-k-eq-BOOLEAN
returns-5 c =
    let a = c.args in let ws = a.table.now in
    λ n. ap (λ w. ltb w 2) c.head-word.ensures ∙ sym (item-boolean ws n a.i (omega arith) (omega arith))

returns-6 : tie.Need-returns-then-k-eq-NAME
returns-6 c =
    let a = c.args in let ws = a.table.now in
    λ n. ap (λ w. ltb w names_most) c.head-word.ensures ∙ sym (item-name ws n a.i (omega arith) (omega arith))

returns-7 : tie.Need-returns
returns-7 c =
    let a = c.args in let ws = a.table.now in
    let h : 4 < kind_at ws a.i = omega arith in
    λ n. sym (item-other ws n a.i h (λ e. c.if-k-eq-DECIMAL.false (c.kind-k.ensures ∙ e)))

pub is_leaf_spec : {M : Type 1} → statement M
is_leaf_spec =
    tie.close
    (tie.spec
    (λ c κs. search rules)  -- kind-requires
    (λ c κs. search rules)  -- tail-requires
    (λ c κs. search rules)  -- are-places-requires
    returns
    returns-2
    (λ c κs. search rules)  -- head-requires
    returns-3
    returns-4
    returns-5
    returns-6
    returns-7)
