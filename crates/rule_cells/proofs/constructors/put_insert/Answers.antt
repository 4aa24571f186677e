-- `constructors::put_insert`: the new cell is an inserted name.
use Rattle.rule_cells.specs.MadeLaws.{made-insert}
use Rattle.rule_cells.proofs.constructors.put_insert.Goals as goal

pub returns : goal.returns
returns c =
    let a = c.args in made-insert a.work.now _ a.top _ a.node a.w c.requires.1 c.requires.2 c.put.ensures
