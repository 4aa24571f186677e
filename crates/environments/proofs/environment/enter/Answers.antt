use Rattle.std.proofs.Common.{◌∙◌, arith}
use Rattle.environments.specs.EntryLaws.{enter-begins, enter-flat, enter-next, entered_all}
use Rattle.environments.proofs.environment.enter.Goals as goal

pub loop-k-init : goal.loop-k-init
loop-k-init c =
    (omega arith, c.table-1.given.0.1, enter-begins c.args.work.now c.args.env.now)

pub get-x-requires : goal.get-x-requires
get-x-requires c =
    (c.loop-k.invariant.1, omega (arith, c.requires.among))

pub overflow_cast-k : goal.overflow_cast-k
overflow_cast-k c =
    omega (arith, c.requires.among)

pub next-requires : goal.next-requires
next-requires c =
    c.if-x-ne0.true

pub put-requires : goal.put-requires
put-requires c =
    (c.loop-k.invariant.1, omega (arith, c.requires.among))

pub loop-k-preserved : goal.loop-k-preserved
loop-k-preserved c =
    let a = c.args in
    elim c.if-x-ne0.branch [
      | goal.then-x-ne0 w ↦ rw w.table-is (omega arith, w.put.auto.env ∙ c.loop-k.invariant.1, enter-next a.work.now a.env.now c.loop-k.k _ _ c.loop-k.invariant.2 c.get-x.ensures _ _ w.if-x-ne0.true w.next.ensures w.put.ensures)
      | goal.else-x-ne0 w ↦ rw w.table-is (omega arith, c.loop-k.invariant.1, enter-flat a.work.now a.env.now c.loop-k.k _ _ c.loop-k.invariant.2 c.get-x.ensures w.if-x-ne0.false)
    ]

pub returns : goal.returns
returns c =
    let a = c.args in entered_all a.work.now a.env.now a.moving c.loop-k.k _ c.requires (omega arith) c.loop-k.invariant.2
