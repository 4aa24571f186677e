-- `shapes::own_name`, by the kind of form.
use Rattle.forms.specs.ShapeLaws.{own-macro, own-formal}
use Rattle.forms.proofs.shapes.own_name.Goals as goal

pub returns-in-Formals : goal.returns-in-Formals
returns-in-Formals c =
    let a = c.args in
    own-formal a.work.now a.node a.bound c.in-Formals.is

pub returns-in-Keywords : goal.returns-in-Keywords
returns-in-Keywords c =
    let a = c.args in
    own-macro a.work.now a.node _ a.bound c.in-Keywords.is c.element.ensures
