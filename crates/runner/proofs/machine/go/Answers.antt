use mathlib.Core.Path.{refl, ◌∙◌}
use native.Mathlib.Omega.{arith}
use Rattle.runner.specs.LoopLaws.{falls-as, follows-as, follows_then, last-comes}
use Rattle.std.proofs.lemmas.Result.{err_from_is_err_and}
use Rattle.runner.proofs.machine.go.Goals as goal

pub loop-turn-init : goal.loop-turn-init
loop-turn-init c = (refl, c.requires.0, record { stands = c.requires.1; same = λ whole x. x })

pub begin-requires : goal.begin-requires
begin-requires c =
    (c.loop-turn.invariant.1, (follows-as c.loop-turn.invariant.2 c.in-Begins.is).stands)

pub returns-in_err-turn-in-Begins : goal.returns-in_err-turn-in-Begins
returns-in_err-turn-in-Begins c =
    λ whole x. let p = err_from_is_err_and c.from_residual.result c.from_residual.ensures.1 in rw (p.1, p.2) (c.in_err-turn-in-Begins.ensures whole ((follows-as c.loop-turn.invariant.2 c.in-Begins.is).same whole x)).0

pub loop-turn-smaller-in_ok-turn-in-Begins : goal.loop-turn-smaller-in_ok-turn-in-Begins
loop-turn-smaller-in_ok-turn-in-Begins c =
    falls-as c.args.budget c.in-Begins.is
    (c.in_ok-turn-in-Begins.ensures _ (follows-as c.loop-turn.invariant.2 c.in-Begins.is).stands.1).1

pub loop-turn-preserved-in_ok-turn-in-Begins : goal.loop-turn-preserved-in_ok-turn-in-Begins
loop-turn-preserved-in_ok-turn-in-Begins c = (
  c.begin.auto.table ∙ c.loop-turn.invariant.0,
  c.loop-turn.invariant.1,
  follows_then (follows-as c.loop-turn.invariant.2 c.in-Begins.is) _ _ (λ whole x. (c.in_ok-turn-in-Begins.ensures whole x).0),
)

pub value_at-requires : goal.value_at-requires
value_at-requires c =
    omega (arith, (follows-as c.loop-turn.invariant.2 c.in-Comes.is).stands.1.room.lent)

pub shape_of-table-then-s-eq0 : goal.shape_of-table-then-s-eq0
shape_of-table-then-s-eq0 c = c.loop-turn.invariant.0

pub returns-then-s-eq0 : goal.returns-then-s-eq0
returns-then-s-eq0 c =
    λ whole x. rw c.value_at.ensures
    (last-comes c.in-Comes.s c.if-s-eq0.true ((follows-as c.loop-turn.invariant.2 c.in-Comes.is).same whole x))

pub come-requires : goal.come-requires
come-requires c = (
  c.loop-turn.invariant.1,
  omega (arith, c.if-s-eq0.false),
  (c.args.budget, _, (follows-as c.loop-turn.invariant.2 c.in-Comes.is).stands.1),
)

pub returns-in_err-turn-in-Comes : goal.returns-in_err-turn-in-Comes
returns-in_err-turn-in-Comes c =
    λ whole x. let p = err_from_is_err_and c.from_residual-in_err-turn-in-Comes.result c.from_residual-in_err-turn-in-Comes.ensures.1 in rw (p.1, p.2)
    (c.in_err-turn-in-Comes.ensures c.args.budget whole ((follows-as c.loop-turn.invariant.2 c.in-Comes.is).same whole x)).0

pub loop-turn-smaller : goal.loop-turn-smaller
loop-turn-smaller c =
    falls-as c.args.budget c.in-Comes.is
    (c.in_ok-turn-in-Comes.ensures _ _ (follows-as c.loop-turn.invariant.2 c.in-Comes.is).stands.1).1

pub loop-turn-preserved : goal.loop-turn-preserved
loop-turn-preserved c = (
  c.come.auto.table ∙ c.loop-turn.invariant.0,
  c.loop-turn.invariant.1,
  follows_then (follows-as c.loop-turn.invariant.2 c.in-Comes.is) _ _ (λ whole x. (c.in_ok-turn-in-Comes.ensures _ whole x).0),
)
