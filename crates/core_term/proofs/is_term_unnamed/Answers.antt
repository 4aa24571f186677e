-- Without one.
use Rattle.std.proofs.Common.{ap, ◌∙◌}
use Rattle.std.specs.Option.{is_some}
use Rattle.core_term.specs.Check.{is_term}
use Rattle.core_term.specs.Code.Window.{good_name}
use Rattle.core_term.specs.Code.Counted.{counted-told}
use Rattle.core_term.proofs.is_term_unnamed.Goals as goal

pub returns : goal.returns
unfolding is_term good_name
returns c = c.is_some.ensures ∙ ap is_some c.count.ensures ∙ counted-told _
