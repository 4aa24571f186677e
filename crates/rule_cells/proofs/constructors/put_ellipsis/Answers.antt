-- `constructors::put_ellipsis`: the new cell is an ellipsis.
use Rattle.rule_cells.specs.MadeLaws.{made-ellipsis}
use Rattle.rule_cells.proofs.constructors.put_ellipsis.Goals as goal

pub returns : goal.returns
returns c =
    let a = c.args in made-ellipsis a.work.now _ a.top _ a.element a.n a.rest c.requires.1 c.requires.2 c.put.ensures
