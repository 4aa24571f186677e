-- A name is put as it is, or behind a join of the wrap and its own.
use Rattle.arena.specs.ArenaLaws.{reference_at-most}
use Rattle.steps.specs.BuildLaws.{room-less, fresh-bare, fresh-joined}
use native.Mathlib.Omega.{arith}
use mathlib.Core.Path.{◌∙◌}
use Rattle.steps.proofs.copy.copy_name.Goals as goal

pub put_name-requires : goal.put_name-requires
put_name-requires c = (room-less _ _ c.requires.0, omega (arith, c.requires.2))

pub shape_of-work-then-own-eq0 : goal.shape_of-work-then-own-eq0
shape_of-work-then-own-eq0 c = c.put_name.auto.work

pub returns-then-own-eq0 : goal.returns-then-own-eq0
returns-then-own-eq0 c = let a = c.args in fresh-bare a.work.now a.top a.node a.w _ _ _ c.word.ensures c.produced-origin.ensures c.reference-own.ensures _ _ c.if-own-eq0.true c.put_name.ensures

pub put_join-joined-requires : goal.put_join-joined-requires
put_join-joined-requires c = let a = c.args in (room-less _ _ c.requires.0, c.requires.2, omega (arith, c.reference-own.ensures, reference_at-most a.work.now a.node 1, c.requires.1))

pub put_name-requires-2 : goal.put_name-requires-2
put_name-requires-2 c = (record { fits = omega (arith, c.requires.0.fits, c.put_join-joined.ensures.end, c.put_join-joined.auto.work); small = omega (arith, c.requires.0.small, c.put_join-joined.ensures.end) }, omega arith)

pub shape_of-work : goal.shape_of-work
shape_of-work c = c.put_name-2.auto.work ∙ c.put_join-joined.auto.work

pub returns : goal.returns
returns c = let a = c.args in fresh-joined a.work.now a.top a.node a.w _ _ _ c.word.ensures c.produced-origin.ensures c.reference-own.ensures _ _ _ _ c.put_join-joined.ensures c.put_name-2.ensures
