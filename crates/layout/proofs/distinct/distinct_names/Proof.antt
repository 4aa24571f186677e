-- `distinct_names` answers whether a list is one of distinct names: one law of `Walk` for each way. Invariant: `Walking`. Measure: the items above item i, since a tail is a higher item.
use Rattle.layout.proofs.distinct.distinct_names.Statement.{statement}
use Rattle.layout.proofs.distinct.distinct_names.Tie as tie
use mathlib.Core.Path.{◌≡◌, sym, ◌∙◌}
use mathlib.Core.Bool.{true, false≢true}
use Prim.Native.Nat.{◌<◌, ◌-◌}
use native.Mathlib.Omega.{arith}
use lib.ListN.{length}
use borrow.Author.Tests.{not-true, not-false}
use Rattle.recipe.specs.Table.{kind_at, item_count}
use Rattle.recipe.specs.TreeFrom.{tree_from}
use Rattle.layout.specs.DistinctNames.{is_fit, passes}
use Rattle.layout.specs.Walk.{Walking, item-words, walk_start, words-here, walk_end, walk-places, pair-here, turn-item, turn-bad, turn-place, turn-full, turn_twice, turn_more}

abbrev invariant-loop : tie.invariant-loop-item
invariant-loop table first low most places₀ i₀ place₀ places i place =
    Walking (passes low) most table first places i place

abbrev decreases-loop : tie.decreases-loop-item
decreases-loop table first low most places₀ i₀ place₀ places i place =
    item_count table - i

-- the lent table keeps its length
kept : (c : tie.At-loop-item invariant-loop decreases-loop) → length c.loop-item.places ≡ length c.args.places.now
kept c = c.loop-item.invariant.long ∙ sym c.requires.2

-- in a turn: item i begins a pair; then, its head is a name that passes; then, the name's number is a place
is-pair : (c : tie.In-loop-item invariant-loop decreases-loop) → kind_at c.args.table.now c.loop-item.i ≡ 4
is-pair c = sym c.kind.ensures ∙ c.loop-item-test.true

good : (c : tie.Else-not-is_fit invariant-loop decreases-loop) → let a = c.args in is_fit (passes a.low) (tree_from a.table.now c.head-item.result) ≡ true
good c = sym c.is_fit.ensures ∙ not-false _ c.if-not-is_fit.false-raw

slot : (c : tie.After-head-number invariant-loop decreases-loop) → c.head-number.result < length c.loop-item.places
slot c =
    turn-place c.loop-item.invariant (is-pair c.before.before.before.before.before) _ c.head-item.ensures (good c.before.before) _ c.head-number.ensures

loop-holds : tie.Need-loop-item-init invariant-loop decreases-loop
loop-holds c =
    let a = c.args in
    walk_start (passes a.low) a.most a.places.now c.requires.0 c.requires.2 c.requires.3

kind-requires : tie.Need-kind-requires invariant-loop decreases-loop
kind-requires c κs = words-here c.loop-item.invariant.item

head-requires : tie.Need-head-item-requires invariant-loop decreases-loop
head-requires c κs = words-here c.loop-item.invariant.item

is-fit-requires : tie.Need-is_fit-requires invariant-loop decreases-loop
is-fit-requires c κs =
    let inv = c.loop-item.invariant in
    (inv.item.table, turn-item inv (is-pair c.before) _ c.head-item.ensures)

same_length : tie.Need-shape_of-places-then-not-is_fit invariant-loop decreases-loop
same_length c = kept c.before.before.before.before.before

returns : tie.Need-returns-then-not-is_fit invariant-loop decreases-loop
returns c =
    (sym (turn-bad c.loop-item.invariant (is-pair c.before.before.before) _ c.head-item.ensures (sym c.is_fit.ensures ∙ not-true _ c.if-not-is_fit.true-raw)), λ q. absurd (false≢true q))

same-length-2 : tie.Need-shape_of-places-then-place-most invariant-loop decreases-loop
same-length-2 c = kept c.before.before.before.before.before.before

returns-2 : tie.Need-returns-then-place-most invariant-loop decreases-loop
returns-2 c =
    (sym (turn-full c.loop-item.invariant (is-pair c.before.before.before.before) _ c.head-item.ensures (good c.before) c.if-place-most.true), λ q. absurd (false≢true q))

head-requires-2 : tie.Need-head-number-requires invariant-loop decreases-loop
head-requires-2 c κs =
    let inv = c.loop-item.invariant in
    item-words _ inv.item.table (turn-item inv (is-pair c.before.before.before.before) _ c.head-item.ensures)

mul-if4 : tie.Need-offset_bounds-places-number invariant-loop decreases-loop
mul-if4 c = omega (arith, slot c, c.loop-item.invariant.long)

slice-read-if4 : tie.Need-bounds-places-number invariant-loop decreases-loop
slice-read-if4 c = slot c.before

same-length-3 : tie.Need-shape_of-places-then-places-number-ne0 invariant-loop decreases-loop
same-length-3 c = kept c.before.before.before.before.before.before.before.before.before

returns-3 : tie.Need-returns-then-places-number-ne0 invariant-loop decreases-loop
returns-3 c =
    (sym (turn_twice c.loop-item.invariant (is-pair c.before.before.before.before.before.before.before) _ c.head-item.ensures (good c.before.before.before.before) _ c.head-number.ensures c.if-places-number-ne0.true), λ q. absurd (false≢true q))

add-place : tie.Need-overflow_add-place invariant-loop decreases-loop
add-place c =
    omega (arith, c.loop-item.invariant.walked.few, c.requires.1)

cast-places : tie.Need-overflow_cast-places invariant-loop decreases-loop
cast-places c =
    omega (arith, c.loop-item.invariant.walked.few, c.requires.1, c.if-place-most.false)

mul-places : tie.Need-offset_bounds-places-number-in-loop-item invariant-loop decreases-loop
mul-places c = omega (arith, slot c.before.before, c.loop-item.invariant.long)

slice-write-places : tie.Need-bounds-places-number-in-loop-item invariant-loop decreases-loop
slice-write-places c = slot c.before.before

tail-requires : tie.Need-tail-i-requires invariant-loop decreases-loop
tail-requires c κs = words-here c.loop-item.invariant.item

loop-less : tie.Need-loop-item-smaller invariant-loop decreases-loop
loop-less c =
    let p = pair-here c.loop-item.invariant.item (is-pair c.before.before.before.before.before.before.before.before) in
    omega (arith, p.tail_above, p.tail_below, c.tail-i.ensures)

loop-again : tie.Need-loop-item-preserved invariant-loop decreases-loop
loop-again c =
    turn_more c.loop-item.invariant (is-pair c.before.before.before.before.before.before.before.before) _ c.head-item.ensures (good c.before.before.before.before.before) _ c.head-number.ensures c.tail-i.result c.if-place-most.false c.if-places-number-ne0.false c.tail-i.ensures

same-length-4 : tie.Need-shape_of-places invariant-loop decreases-loop
same-length-4 c = kept c.before.before

returns-4 : tie.Need-returns invariant-loop decreases-loop
returns-4 c =
    let end : kind_at c.args.table.now c.loop-item.i ≡ 4 → ⊥ = λ q. c.loop-item-test.false (c.kind.ensures ∙ q) in
    (sym (walk_end c.loop-item.invariant end), λ q. walk-places c.loop-item.invariant end)

pub distinct_names_spec : {M : Type 1} → statement M
distinct_names_spec =
    tie.close
    (tie.spec
    invariant-loop
    decreases-loop
    loop-holds
    kind-requires
    head-requires
    is-fit-requires
    same_length
    returns
    same-length-2
    returns-2
    head-requires-2
    mul-if4
    slice-read-if4
    same-length-3
    returns-3
    add-place
    cast-places
    mul-places
    slice-write-places
    tail-requires
    loop-less
    loop-again
    same-length-4
    returns-4)
