-- `constructors::put_variable_template`: the new cell is a variable.
use Rattle.rule_cells.specs.MadeLaws.{made-variable_t}
use Rattle.rule_cells.proofs.constructors.put_variable_template.Goals as goal

pub returns : goal.returns
returns c =
    let a = c.args in made-variable_t a.work.now _ a.top _ a.k a.d c.put.ensures
