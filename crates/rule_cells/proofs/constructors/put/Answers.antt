-- `constructors::put` leaves five words at the top.
use Rattle.rule_cells.specs.MadeLaws.{five-stored}
use Rattle.rule_cells.proofs.constructors.put.Goals as goal

pub returns : goal.returns
returns c =
    let a = c.args in five-stored a.work.now a.top a.a a.b a.c a.d a.tag c.requires.fits
