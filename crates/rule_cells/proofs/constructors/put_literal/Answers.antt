-- `constructors::put_literal`: the new cell is a literal.
use Rattle.rule_cells.specs.MadeLaws.{made-literal}
use Rattle.rule_cells.proofs.constructors.put_literal.Goals as goal

pub returns : goal.returns
returns c =
    let a = c.args in made-literal a.work.now _ a.top _ a.node a.w a.number a.key c.requires.1 c.requires.2 c.put.ensures
