-- `cells::reference` reads the reference that the arena means.
use Rattle.std.proofs.Common.{◌≤◌, arith, le-ltb, lt-ltb}
use Rattle.arena.specs.Arena.{falling, reference_at}
use Rattle.arena.proofs.cells.reference.Goals as goal

pub returns-then-r-at : goal.returns-then-r-at
unfolding reference_at falling
returns-then-r-at c = rw (← c.word-r.ensures, lt-ltb _ _ c.if-r-at.true)

pub returns-else-r-at : goal.returns-else-r-at
unfolding reference_at falling
returns-else-r-at c =
    let a = c.args in
    let h : a.at ≤ c.word-r.result = omega arith in
    rw (← c.word-r.ensures, le-ltb _ _ h)
