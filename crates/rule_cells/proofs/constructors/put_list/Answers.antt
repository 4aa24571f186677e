-- `constructors::put_list`: an ellipsis or a pair.
use Rattle.rule_cells.specs.MadeLaws.{list-ellipsis, list-pair}
use Rattle.rule_cells.proofs.constructors.put_list.Goals as goal

pub returns-then-followed : goal.returns-then-followed
returns-then-followed c =
    let a = c.args in
    list-ellipsis a.work.now _ a.top _ a.followed a.element a.n a.rest c.if-followed.true c.put_ellipsis.ensures

pub returns : goal.returns
returns c =
    let a = c.args in
    list-pair a.work.now _ a.top _ a.followed a.element a.n a.rest c.if-followed.false c.put_pair.ensures
