-- With a name table: whether a count is told.
use Rattle.std.proofs.Common.{ap, ◌∙◌}
use Rattle.std.specs.Option.{is_some}
use Rattle.core_term.specs.Check.{is_term}
use Rattle.core_term.specs.Code.Counted.{counted-told}
use Rattle.core_term.proofs.is_term.Goals as goal

pub returns : goal.returns
unfolding is_term
returns c = c.is_some.ensures ∙ ap is_some c.count_variables.ensures ∙ counted-told _
