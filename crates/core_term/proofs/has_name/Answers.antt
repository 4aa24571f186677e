-- The test of a name, with a name table.
use Rattle.core_term.specs.Code.Window.{good_name}
use Rattle.core_term.proofs.has_name.Goals as goal

pub returns : goal.returns
unfolding good_name
returns c = c.name_good.ensures
