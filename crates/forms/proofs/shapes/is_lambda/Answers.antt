-- `shapes::is_lambda`: three elements, and the list of names.
use Rattle.forms.specs.ShapeLaws.{lambda-shape, lambda-list, lambda-all}
use Rattle.forms.proofs.shapes.is_lambda.Goals as goal

pub returns-then-not-is_list_of : goal.returns-then-not-is_list_of
returns-then-not-is_list_of c =
    let a = c.args in
    lambda-shape a.work.now a.node _ c.is_list_of.ensures c.if-not-is_list_of.true

pub returns-then-not-is_list : goal.returns-then-not-is_list
returns-then-not-is_list c =
    let a = c.args in
    lambda-list a.work.now a.node _ c.is_list_of.ensures _ c.element-list.ensures _ c.is_list.ensures c.if-not-is_list.true

pub returns : goal.returns
returns c =
    let a = c.args in
    lambda-all a.work.now a.node _ c.is_list_of.ensures _ c.element-list.ensures c.if-not-is_list_of.false _ _ c.is_list.ensures c.if-not-is_list.false c.binds_all.ensures
