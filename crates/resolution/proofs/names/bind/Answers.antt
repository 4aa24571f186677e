-- `names::bind`: the name's summary describes the binder's own name.
use Rattle.std.proofs.Common.{refl, arith}
use Rattle.arena.specs.ArenaLaws.{reference_at-most}
use Rattle.resolution.specs.NameLaws.{binds-name}
use Rattle.resolution.proofs.names.bind.Goals as goal

pub put_binder-requires : goal.put_binder-requires
put_binder-requires c =
    let a = c.args in
    let pre = c.requires in
    (pre.0, omega (arith, pre.1, c.reference-own.ensures, reference_at-most a.work.now a.node 1), pre.2, pre.3)

pub returns : goal.returns
returns c =
    let a = c.args in
    binds-name a.node a.w _ a.work.now _ a.top _ c.reference-own.ensures c.number_of-number.ensures refl c.summary_of-s.ensures c.put_binder.ensures
