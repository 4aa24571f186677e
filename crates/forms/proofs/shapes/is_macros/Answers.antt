-- `shapes::is_macros`: three elements, and the list of macros, which is not empty.
use Rattle.forms.specs.ShapeLaws.{macros-shape, macros-none, macros-all}
use Rattle.forms.proofs.shapes.is_macros.Goals as goal

pub returns-then-not-is_list_of : goal.returns-then-not-is_list_of
returns-then-not-is_list_of c =
    let a = c.args in
    macros-shape a.work.now a.node _ c.is_list_of.ensures a.limit c.if-not-is_list_of.true

pub returns-then-word-ne-PAIR : goal.returns-then-word-ne-PAIR
returns-then-word-ne-PAIR c =
    let a = c.args in
    macros-none a.work.now a.node _ c.is_list_of.ensures _ c.element-list.ensures _ c.word.ensures a.limit c.if-word-ne-PAIR.true

pub returns : goal.returns
returns c =
    let a = c.args in
    macros-all a.work.now a.node _ c.is_list_of.ensures _ c.element-list.ensures _ c.word.ensures a.limit c.if-not-is_list_of.false _ c.if-word-ne-PAIR.false c.binds_all.ensures
