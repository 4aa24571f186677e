-- `lengths::copies`: none without a driving list, else as many as each of them has elements.
use Rattle.std.proofs.Common.{refl}
use Rattle.environments.specs.LengthLaws.{differ-passed, copies-of, copies-differ}
use Rattle.environments.proofs.lengths.copies.Goals as goal

pub returns-in_err-drivers : goal.returns-in_err-drivers
returns-in_err-drivers c =
    let a = c.args in
    rw (differ-passed c.from_residual.result c.from_residual.ensures.0) (copies-differ a.work.now a.env.now a.e _ c.in_err-drivers.ensures _ refl)

pub returns : goal.returns
returns c =
    let a = c.args in
    rw c.unwrap_or.ensures (copies-of a.work.now a.env.now a.e _ c.in_ok-drivers.ensures _ refl)
