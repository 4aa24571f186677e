use Rattle.core_term.specs.Code.OpenedLaws.{shaped-opened}
use Rattle.core_term.proofs.nodes.shape_at.Goals as goal

pub returns : goal.returns
returns c = shaped-opened _ _ c.in_ok-node.ensures _ c.shape_of.ensures
