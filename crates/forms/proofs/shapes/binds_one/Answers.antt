-- `shapes::binds_one`, by the kind of form.
use Rattle.forms.specs.ShapeLaws.{one-macro, one-formal}
use Rattle.forms.proofs.shapes.binds_one.Goals as goal

pub returns-in-Formals : goal.returns-in-Formals
returns-in-Formals c =
    let a = c.args in
    one-formal a.work.now a.node a.bound _ c.in-Formals.is c.is_ordinary.ensures

pub returns-in-Keywords : goal.returns-in-Keywords
returns-in-Keywords c =
    let a = c.args in
    one-macro a.work.now a.node a.bound _ c.in-Keywords.is c.is_macro.ensures
