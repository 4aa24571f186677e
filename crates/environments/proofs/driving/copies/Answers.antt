-- `driving::copies`: by what the driving lists say.
use Rattle.std.proofs.Common.{refl}
use Rattle.environments.specs.LengthLaws.{differ-passed}
use Rattle.environments.specs.DrivingLaws.{counted_of, counted-differ}
use Rattle.environments.proofs.driving.copies.Goals as goal

pub returns-in_err-drivers : goal.returns-in_err-drivers
returns-in_err-drivers c =
    let a = c.args in
    rw (differ-passed c.from_residual.result c.from_residual.ensures.0) (counted-differ a.work.now a.env.now a.e a.inner _ c.in_err-drivers.ensures _ refl)

pub returns : goal.returns
returns c =
    let a = c.args in
    rw c.unwrap_or.ensures (counted_of a.work.now a.env.now a.e a.inner _ c.in_ok-drivers.ensures _ refl)
