-- `names::unbound`, by the table of the operations' places.
use Rattle.std.proofs.Common.{arith, sym, ◌∙◌}
use Rattle.resolution.specs.NameLaws.{unbound-form, unbound-out, unbound-none, unbound-some}
use Rattle.resolution.proofs.names.unbound.Goals as goal

pub returns-then-number-lt-BASE_NAMES : goal.returns-then-number-lt-BASE_NAMES
returns-then-number-lt-BASE_NAMES c =
    let a = c.args in
    unbound-form a.operations.now a.number c.if-number-lt-BASE_NAMES.true

pub returns-in_err-place : goal.returns-in_err-place
returns-in_err-place c =
    let a = c.args in
    rw c.from_residual.ensures (unbound-out a.operations.now a.number (omega arith) c.in_err-place.ensures.lookup.3)

pub returns-then-place-eq0 : goal.returns-then-place-eq0
returns-then-place-eq0 c =
    let a = c.args in
    unbound-none a.operations.now a.number (omega arith) (sym (c.in_ok-place.ensures.lookup.3.1 0) ∙ c.if-place-eq0.true)

pub returns : goal.returns
returns c =
    let a = c.args in
    let place = c.in_ok-place.ensures.lookup.3.1 0 in
    rw c.from.ensures (unbound-some a.operations.now a.number (omega arith) _ place c.if-place-eq0.false)
