-- `direct::only_mark`: none in the name's own wrap, then that of the pending one.
use Rattle.std.proofs.lemmas.Option.{IfSome_then}
use Rattle.resolution.specs.DirectLaws.{only-pending}
use Rattle.resolution.proofs.direct.only_mark.Goals as goal

pub returns : goal.returns
returns c =
    let a = c.args in
    IfSome_then _ c.lone_mark-2.ensures (λ r p. only-pending a.work.now a.number a.own a.w r _ c.in_ok-lone_mark.ensures c.if-branch-ne0.false p)
