use Rattle.core_term.specs.Code.Window.{good_name}
use Rattle.core_term.proofs.count_variables.Goals as goal

pub returns : goal.returns
unfolding good_name
returns c = c.count.ensures
