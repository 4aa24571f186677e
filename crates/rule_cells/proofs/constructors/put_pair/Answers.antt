-- `constructors::put_pair`: the new cell is a pair.
use Rattle.rule_cells.specs.MadeLaws.{made_pair}
use Rattle.rule_cells.proofs.constructors.put_pair.Goals as goal

pub returns : goal.returns
returns c =
    let a = c.args in made_pair a.work.now _ a.top _ a.head a.tail c.requires.1 c.requires.2 c.put.ensures
