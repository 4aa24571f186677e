-- `numbers` lists the operations in the order of their places. Invariant: `Listing`. Measure: the items above item i.
use Rattle.layout.proofs.operation.numbers.Statement.{statement}
use Rattle.layout.proofs.operation.numbers.Tie as tie
use mathlib.Core.Path.{◌≡◌, refl, ap, sym, ◌∙◌}
use Prim.Native.Nat.{◌<◌, ◌-◌}
use lib.ListN.{length, length-set}
use native.Mathlib.Omega.{arith}
use Rattle.words.specs.Limits.{operations_most}
use Rattle.recipe.specs.Table.{kind_at, item_count}
use Rattle.recipe.specs.TreeFrom.{head_at}
use Rattle.recipe.proofs.LayoutLaws.{layout}
use Rattle.layout.specs.Walk.{item-words, words-here, pair-here}
use Rattle.layout.specs.Listing.{Listing, listing_start, listing-end, listing-item, listing-room, listing-more}

abbrev invariant-loop : tie.invariant-loop-list
invariant-loop table list₀ i₀ n₀ list i n =
    (length list ≡ length list₀) × Listing table list i n

abbrev decreases-loop : tie.decreases-loop-list
decreases-loop table list₀ i₀ n₀ list i n =
    item_count table - i

-- in a turn: item i begins a pair, and the list has room
is-pair : (c : tie.In-loop-list invariant-loop decreases-loop) → kind_at c.args.table.now c.loop-list.i ≡ 4
is-pair c = sym c.kind.ensures ∙ c.loop-list-test.true

room : (c : tie.In-loop-list invariant-loop decreases-loop) → c.loop-list.n < operations_most
room c = listing-room c.loop-list.invariant.1 (is-pair c)

head-requires : tie.Need-head-i-requires invariant-loop decreases-loop
head-requires c κs =
    let l = layout c.args.table.now c.requires.0 in item-words 0 l (omega (arith, l.least))

loop-holds : tie.Need-loop-list-init invariant-loop decreases-loop
loop-holds c =
    (refl, listing_start c.args.list.now c.head-i.result (layout c.args.table.now c.requires.0) c.requires.1 c.head-i.ensures c.requires.2)

kind-requires : tie.Need-kind-requires invariant-loop decreases-loop
kind-requires c κs =
    words-here c.loop-list.invariant.1.item

head-requires-2 : tie.Need-head-requires invariant-loop decreases-loop
head-requires-2 c κs =
    words-here c.loop-list.invariant.1.item

head-requires-3 : tie.Need-head-requires-in-loop-list invariant-loop decreases-loop
head-requires-3 c κs =
    let item = c.loop-list.invariant.1.item in
    let p = pair-here item (is-pair c.before) in
    item-words _ item.table (omega (arith, p.head_below, c.head.ensures))

-- the number of the next name
number : (c : tie.After-head-in-loop-list invariant-loop decreases-loop) → let ws = c.args.table.now in c.head-in-loop-list.result ≡ head_at ws (head_at ws c.loop-list.i)
number c = c.head-in-loop-list.ensures ∙ ap (head_at c.args.table.now) c.head.ensures

cast-list : tie.Need-overflow_cast-list invariant-loop decreases-loop
cast-list c = omega (arith, number c, (listing-item c.loop-list.invariant.1 (is-pair c.before.before)).below)

mul-list : tie.Need-offset_bounds-list-n invariant-loop decreases-loop
mul-list c = omega (arith, room c.before.before)

slice-write-list : tie.Need-bounds-list-n invariant-loop decreases-loop
slice-write-list c = omega (arith, room c.before.before, c.loop-list.invariant.1.listed.room)

add-n : tie.Need-overflow_add-n invariant-loop decreases-loop
add-n c = omega (arith, room c.before.before)

tail-requires : tie.Need-tail-i-requires invariant-loop decreases-loop
tail-requires c κs =
    words-here c.loop-list.invariant.1.item

loop-less : tie.Need-loop-list-smaller invariant-loop decreases-loop
loop-less c =
    let p = pair-here c.loop-list.invariant.1.item (is-pair c.before.before.before) in omega (arith, p.tail_above, p.tail_below, c.tail-i.ensures)

loop-again : tie.Need-loop-list-preserved invariant-loop decreases-loop
loop-again c =
    (length-set c.loop-list.list c.loop-list.n _ ∙ c.loop-list.invariant.0, listing-more c.loop-list.invariant.1 (is-pair c.before.before.before) c.head-in-loop-list.result c.tail-i.result (number c.before) c.tail-i.ensures)

same_length : tie.Need-shape_of-list invariant-loop decreases-loop
same_length c =
    c.loop-list.invariant.0

returns : tie.Need-returns invariant-loop decreases-loop
returns c =
    (c.loop-list.invariant.1.listed.within, listing-end c.loop-list.invariant.1 (λ q. c.loop-list-test.false (c.kind.ensures ∙ q)))

pub numbers_spec : {M : Type 1} → statement M
numbers_spec =
    tie.close
    (tie.spec
    invariant-loop
    decreases-loop
    head-requires
    loop-holds
    kind-requires
    head-requires-2
    head-requires-3
    cast-list
    mul-list
    slice-write-list
    add-n
    tail-requires
    loop-less
    loop-again
    same_length
    returns)
