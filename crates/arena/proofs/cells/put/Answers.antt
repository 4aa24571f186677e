-- `cells::put` leaves three words at the top.
use Rattle.arena.specs.CellLaws.{cell-stored}
use Rattle.arena.proofs.cells.put.Goals as goal

pub returns : goal.returns
returns c =
    let a = c.args in
    cell-stored a.work.now a.top a.a a.b a.c c.requires.fits
