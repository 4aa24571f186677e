use Rattle.supplier.proofs.grammar.count.Statement.{statement}
use Rattle.supplier.proofs.grammar.count.Tie as tie
use native.Mathlib.Omega.{arith}
use Prim.Native.Nat.{◌-◌, ◌≤◌}
use lib.ListN.{length}
use Rattle.supplier.specs.Items.{HeldAll}
use Rattle.supplier.specs.ItemsLaws.{all_in, tail-held}
use Rattle.supplier.specs.ListLaws.{Counting, counting-start, counting-next, counting-end}

abbrev invariant-loop : tie.invariant-loop-j
invariant-loop items i j₀ n₀ j n =
    HeldAll items j × Counting items i j n × (n ≤ j)

abbrev decreases-loop : tie.decreases-loop-j
decreases-loop items i j₀ n₀ j n =
    length items - j

loop-holds : tie.Need-loop-j-init invariant-loop decreases-loop
loop-holds c =
    (c.requires, counting-start _ _, omega arith)

kind-requires : tie.Need-kind-requires invariant-loop decreases-loop
kind-requires c κs =
    all_in _ _ c.loop-j.invariant.0

tail-requires : tie.Need-tail-j-requires invariant-loop decreases-loop
tail-requires c κs =
    all_in _ _ c.loop-j.invariant.0

add-n : tie.Need-overflow_add-n invariant-loop decreases-loop
add-n c =
    omega (arith, c.loop-j.invariant.2, all_in _ _ c.loop-j.invariant.0, c.well_formed.0)

loop-less : tie.Need-loop-j-smaller invariant-loop decreases-loop
loop-less c =
    let t = tail-held _ _ _ c.kind.ensures c.loop-j-test.true c.loop-j.invariant.0 _ c.tail-j.ensures in
    omega (arith, t.1, all_in _ _ c.loop-j.invariant.0)

loop-again : tie.Need-loop-j-preserved invariant-loop decreases-loop
loop-again c =
    let t = tail-held _ _ _ c.kind.ensures c.loop-j-test.true c.loop-j.invariant.0 _ c.tail-j.ensures in
    (t.0, counting-next _ _ _ _ c.loop-j.invariant.1 _ c.kind.ensures c.loop-j-test.true _ c.tail-j.ensures, omega (arith, c.loop-j.invariant.2, t.1))

returns : tie.Need-returns invariant-loop decreases-loop
returns c =
    counting-end _ _ _ _ c.loop-j.invariant.1 _ c.kind.ensures c.loop-j-test.false

pub count_spec : {M : Type 1} → statement M
count_spec =
    tie.close
    (tie.spec
    invariant-loop
    decreases-loop
    loop-holds
    kind-requires
    tail-requires
    add-n
    loop-less
    loop-again
    returns)
