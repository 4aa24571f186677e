-- `shapes::is_macro`: its shape, then its name.
use Rattle.forms.specs.ShapeLaws.{macro-shape, macro-name}
use Rattle.forms.proofs.shapes.is_macro.Goals as goal

pub returns-then-not-is_list_of : goal.returns-then-not-is_list_of
returns-then-not-is_list_of c =
    let a = c.args in
    macro-shape a.work.now a.node _ c.is_list_of.ensures c.if-not-is_list_of.true

pub returns : goal.returns
returns c =
    let a = c.args in
    macro-name a.work.now a.node _ c.is_list_of.ensures c.if-not-is_list_of.false _ _ c.element-own.ensures c.is_ordinary.ensures
