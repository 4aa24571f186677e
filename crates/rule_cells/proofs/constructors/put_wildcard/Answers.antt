-- `constructors::put_wildcard`: the new cell is the wildcard.
use Rattle.rule_cells.specs.MadeLaws.{made-wildcard}
use Rattle.rule_cells.proofs.constructors.put_wildcard.Goals as goal

pub returns : goal.returns
returns c =
    let a = c.args in made-wildcard a.work.now _ a.top _ c.put.ensures
