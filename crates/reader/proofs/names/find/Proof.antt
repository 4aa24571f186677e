-- The loop's invariant: no name from the entry on is the word.
use Rattle.reader.proofs.names.find.Statement.{statement}
use Rattle.reader.proofs.names.find.Tie as tie
use native.Mathlib.Omega.{arith}
use borrow.Author.Rules.{rules}
use mathlib.Core.Path.{subst}
use Prim.Native.Nat.{◌-◌, ◌<◌}
use Rattle.reader.specs.Code.Index.{Walked}
use Rattle.reader.proofs.OfCode.IndexLaws.{bucket-below, walked-first}
use Rattle.reader.specs.Code.Stored.{names_in}
use Rattle.reader.proofs.OfCode.StoredLaws.{entry_known, find-here, find-on, find-falls, find-end}

abbrev invariant-loop : tie.invariant-loop-entry
invariant-loop names index known word bucket entry₀ entry =
    Walked (names_in names 0 known) word entry

abbrev decreases-loop : tie.decreases-loop-entry
decreases-loop names index known word bucket entry₀ entry =
    entry

-- the name of an entry is stored
entry-stored : (c : tie.In-loop-entry invariant-loop decreases-loop) → c.loop-entry.entry - 1 < c.args.known
entry-stored c =
    let args = c.args in
    entry_known args.word.now args.names.now args.index.now args.known c.requires.1.0.0 c.loop-entry.entry c.loop-entry.invariant c.loop-entry-test.true

entry-at-requires : tie.Need-entry_at-entry-requires invariant-loop decreases-loop
entry-at-requires c κs =
    let args = c.args in
    let pre = c.requires in
    omega (arith, pre.1.0.0.size, pre.1.1, bucket-below args.word.now)

loop-holds : tie.Need-loop-entry-init invariant-loop decreases-loop
loop-holds c =
    let args = c.args in
    let pre = c.requires in
    rw (c.entry_at-entry.ensures, pre.1.1)
    (walked-first (names_in args.names.now 0 args.known) args.word.now args.index.now pre.1.0.0)

spells-requires : tie.Need-spells-requires invariant-loop decreases-loop
spells-requires c κs =
    let pre = c.requires in
    (omega (arith, pre.0.0, entry-stored c), pre.0.1 (c.loop-entry.entry - 1) (entry-stored c))

returns : tie.Need-returns-then-spells invariant-loop decreases-loop
returns c =
    let args = c.args in
    let pre = c.requires in
    find-here args.word.now args.names.now args.index.now args.known pre.1.0.0 c.loop-entry.entry c.loop-entry.invariant
    c.loop-entry-test.true c.spells.result c.spells.ensures c.if-spells.true

add-entry-at : tie.Need-overflow_add-n invariant-loop decreases-loop
add-entry-at c = omega (arith, entry-stored c.before.before, c.requires.1.0.1)

entry-at-requires-2 : tie.Need-entry_at-entry-requires-in-loop-entry invariant-loop decreases-loop
entry-at-requires-2 c κs =
    let pre = c.requires in
    omega (arith, entry-stored c.before.before, pre.1.0.0.size, pre.1.0.1)

loop-less : tie.Need-loop-entry-smaller invariant-loop decreases-loop
loop-less c =
    let args = c.args in
    let pre = c.requires in
    rw c.entry_at-entry-in-loop-entry.ensures
    (find-falls args.word.now args.names.now args.index.now args.known pre.1.0.0 c.loop-entry.entry c.loop-entry.invariant
    c.loop-entry-test.true)

loop-again : tie.Need-loop-entry-preserved invariant-loop decreases-loop
loop-again c =
    let args = c.args in
    let pre = c.requires in
    rw c.entry_at-entry-in-loop-entry.ensures
    (find-on args.word.now args.names.now args.index.now args.known pre.1.0.0 c.loop-entry.entry c.loop-entry.invariant
    c.loop-entry-test.true c.spells.result c.spells.ensures c.if-spells.false)

returns-2 : tie.Need-returns invariant-loop decreases-loop
returns-2 c =
    let args = c.args in
    let pre = c.requires in
    let w = subst (Walked (names_in args.names.now 0 args.known) args.word.now) c.loop-entry-test.false c.loop-entry.invariant in
    find-end args.word.now args.names.now args.index.now args.known pre.1.0.0 w

pub find_spec : {M : Type 1} → statement M
find_spec =
    tie.close
    (tie.spec
    invariant-loop
    decreases-loop
    entry-at-requires
    loop-holds
    (λ c. search rules)  -- sub-n
    spells-requires
    returns
    add-entry-at
    entry-at-requires-2
    loop-less
    loop-again
    returns-2)
