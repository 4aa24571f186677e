use Rattle.core_term.specs.Code.OpenedLaws.{read-opened}
use Rattle.core_term.proofs.nodes.opened.Goals as goal

pub returns : goal.returns
returns c = read-opened _ _ c.read.ensures
