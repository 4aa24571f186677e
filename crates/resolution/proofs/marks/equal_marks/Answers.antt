-- `marks::equal_marks`: the two parts of the table are compared.
use Rattle.resolution.specs.MarkLaws.{equal-parts}
use Rattle.resolution.proofs.marks.equal_marks.Goals as goal

pub returns : goal.returns
returns c =
    let a = c.args in
    equal-parts a.marks.now a.a a.b a.count c.requires.0 c.requires.1 _ c.eq.ensures
