-- The variable's cell, or the ground.
use mathlib.Core.Path.{subst}
use Rattle.std.specs.Prelude.{Option}
use Rattle.runner.specs.declared.rows.Value.{Value}
use Rattle.runner.specs.Found.{FoundIs}
use Rattle.evaluation.specs.Evaluate as S
use Rattle.runner.specs.BeginLaws.{seeks-bound, seeks-found, seeks-none}
use Rattle.runner.proofs.begin.variable.Goals as goal

pub find-requires : goal.find-requires
find-requires c =
    let p = c.requires in seeks-bound c.args.s c.args.n c.args.environment p.1.2

pub returns-in_default : goal.returns-in_default
returns-in_default c =
    λ ws budget whole k. seeks-none c.args.s c.args.n c.args.environment k
    (subst (λ (r : Option Value). FoundIs ws c.args.table.now c.args.environment (S.find c.args.n k.environment) r) c.in_default.is (c.find.ensures ws k.environment k.bound))

pub push-requires : goal.push-requires
push-requires c =
    let p = c.requires in (
      p.0,
      (
        p.1.0,
        p.1.1,
        seeks-found c.args.s c.args.n c.args.environment p.1.2 _
            (subst (λ (r : Option Value). FoundIs p.0 c.args.table.now c.args.environment (S.find c.args.n p.1.2.environment) r) c.in-Some.is (c.find.ensures p.0 p.1.2.environment p.1.2.bound)),
      ),
    )

pub returns : goal.returns
returns c =
    λ ws budget whole k. c.push.ensures ws budget whole (seeks-found c.args.s c.args.n c.args.environment k _
    (subst (λ (r : Option Value). FoundIs ws c.args.table.now c.args.environment (S.find c.args.n k.environment) r) c.in-Some.is (c.find.ensures ws k.environment k.bound)))
