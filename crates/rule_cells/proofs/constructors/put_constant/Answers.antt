-- `constructors::put_constant`: the new cell is a constant.
use Rattle.rule_cells.specs.MadeLaws.{made-constant}
use Rattle.rule_cells.proofs.constructors.put_constant.Goals as goal

pub returns : goal.returns
returns c =
    let a = c.args in made-constant a.work.now _ a.top _ a.kind a.first a.second c.put.ensures
