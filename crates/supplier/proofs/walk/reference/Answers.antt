use Rattle.supplier.specs.ToldLaws.{reference-outside, reference-free, reference-variable, found-below}
use Rattle.std.proofs.Common.{arith, ap, sym, ◌∙◌}
use Rattle.supplier.specs.Scope.{place_after}
use Rattle.supplier.proofs.walk.reference.Goals as goal

pub returns-then-n-lt3 : goal.returns-then-n-lt3
returns-then-n-lt3 c = reference-outside _ _ _ _ _ _ _ c.if-n-lt3.true

pub innermost-requires : goal.innermost-requires
innermost-requires c = c.requires.2

pub variable-requires : goal.variable-requires
variable-requires c = omega (arith, c.requires.2, found-below c.args.scope.now c.args.top c.args.n c.in-Some.k (sym (ap place_after c.in-Some.is) ∙ c.innermost.ensures))

pub returns-in-Some : goal.returns-in-Some
returns-in-Some c =
    reference-variable _ _ _ _ _ _ _ c.if-n-lt3.false _ c.in-Some.k (sym (ap place_after c.in-Some.is) ∙ c.innermost.ensures) _ c.variable.ensures c.takes.ensures

pub free-requires : goal.free-requires
free-requires c = (c.requires.0, c.requires.1)

pub returns-in-None : goal.returns-in-None
returns-in-None c = reference-free _ _ _ _ _ _ _ c.if-n-lt3.false _ (sym (ap place_after c.in-None.is) ∙ c.innermost.ensures) c.free.ensures
