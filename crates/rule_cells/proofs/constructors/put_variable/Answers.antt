-- `constructors::put_variable`: the new cell is a variable.
use Rattle.rule_cells.specs.MadeLaws.{made-variable}
use Rattle.rule_cells.proofs.constructors.put_variable.Goals as goal

pub returns : goal.returns
returns c =
    let a = c.args in made-variable a.work.now _ a.top _ a.k c.put.ensures
