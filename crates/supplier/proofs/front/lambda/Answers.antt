use native.Mathlib.Omega.{arith}
use mathlib.Core.Path.{sym, subst}
use Rattle.supplier.specs.Told.{Fronted}
use Rattle.supplier.specs.ToldLaws.{lambda-three, front-lambda, front-names}
use Rattle.supplier.proofs.front.lambda.Goals as goal

pub overflow_sub-names : goal.overflow_sub-names
overflow_sub-names c = omega (arith, lambda-three _ _ _ c.requires)

pub overflow_add-count : goal.overflow_add-count
overflow_add-count c = omega (arith, c.well_formed.0)

pub returns-then-count-names : goal.returns-then-count-names
returns-then-count-names c = subst (Fronted _) (sym c.of.ensures) (front-lambda _ _ _ c.requires (omega (arith, c.if-count-names.true)) _ (omega arith))

pub overflow_cast-names : goal.overflow_cast-names
overflow_cast-names c = omega (arith, c.if-count-names.false, c.well_formed)

pub returns : goal.returns
returns c = subst (Fronted _) (sym c.of-2.ensures) (front-names _ _ _ c.requires (omega (arith, c.if-count-names.false)))
