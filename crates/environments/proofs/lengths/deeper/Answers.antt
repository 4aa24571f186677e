-- `lengths::deeper`
use Rattle.std.proofs.Common.{refl, arith, rules, eq-eqb, ne_eqb}
use Rattle.environments.specs.Lengths.{deeper}
use Rattle.environments.proofs.lengths.deeper.Goals as goal

pub overflow_add-result : goal.overflow_add-result
overflow_add-result c =
    search rules

pub returns-then-tag-eq-ELLIPSIS : goal.returns-then-tag-eq-ELLIPSIS
unfolding deeper
returns-then-tag-eq-ELLIPSIS c =
    rw (eq-eqb _ 7 c.if-tag-eq-ELLIPSIS.true) (omega arith)

pub returns : goal.returns
unfolding deeper
returns c =
    rw (ne_eqb _ 7 c.if-tag-eq-ELLIPSIS.false) refl
