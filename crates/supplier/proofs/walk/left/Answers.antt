use Rattle.supplier.specs.ToldLaws.{words-behind}
use Rattle.supplier.proofs.walk.left.Goals as goal

pub returns : goal.returns
returns c = words-behind _ _ _ c.unwrap_or-taken.ensures
