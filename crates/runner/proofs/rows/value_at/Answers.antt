-- The four words of a row's value.
use Rattle.runner.specs.Stores.{value_read}
use Rattle.std.proofs.Common.{◌∙◌}
use Rattle.runner.proofs.rows.value_at.Goals as goal

pub returns : goal.returns
returns c = c.value_of.ensures ∙ value_read c.args.table.now c.args.row
