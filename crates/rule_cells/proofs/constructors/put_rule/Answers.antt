-- `constructors::put_rule`: the new cell is a rule and those after it.
use Rattle.rule_cells.specs.MadeLaws.{made-rule}
use Rattle.rule_cells.proofs.constructors.put_rule.Goals as goal

pub returns : goal.returns
returns c =
    let a = c.args in made-rule a.work.now _ a.top _ a.pattern a.template a.next c.requires.1 c.requires.2 c.requires.3 c.put.ensures
