use Rattle.std.proofs.Common.{◌+◌, ◌∙◌, arith}
use Rattle.environments.specs.EntryLaws.{begins, begins-more, begun_all, MovingBelow, moving-all, moving-less, moving-ends}
use Rattle.environments.proofs.environment.begin.Goals as goal

pub loop-k-init : goal.loop-k-init
loop-k-init c =
    let a = c.args in (omega arith, c.to-1.given.0.1, begins a.outer.now a.inner.now, moving-all a.outer.now 0)

pub get-x-requires : goal.get-x-requires
get-x-requires c =
    (c.from-1.given, omega arith)

pub put-requires : goal.put-requires
put-requires c =
    (c.loop-k.invariant.1, omega arith)

pub loop-k-preserved : goal.loop-k-preserved
loop-k-preserved c =
    let outer = c.args.outer.now in
    let below : MovingBelow outer (c.loop-k.k + 1) c.if-x-ne0.moving =
    elim c.if-x-ne0.branch [
      | goal.then-x-ne0 w ↦ rw w.moving-is (moving-all outer (c.loop-k.k + 1))
      | goal.else-x-ne0 w ↦ rw w.moving-is (moving-less outer c.loop-k.k _ _ c.get-x.ensures w.if-x-ne0.false c.loop-k.invariant.3)
    ] in
    (omega arith, c.put.auto.env ∙ c.loop-k.invariant.1, begins-more outer _ _ _ _ _ c.get-x.ensures c.begun.ensures c.put.ensures c.loop-k.invariant.2, below)

pub returns : goal.returns
returns c =
    let outer = c.args.outer.now in
    let known = c.from-1.given in
    let all = begun_all outer c.loop-k.k _ known c.loop-k.invariant.1 (omega arith) c.loop-k.invariant.2 in
    (all.0, all.1, moving-ends outer c.loop-k.k _ known c.loop-k.invariant.0 (omega arith) c.loop-k.invariant.3)
