-- The measure is twice the node, and one more for a whole template.
use Rattle.std.proofs.Common.{◌+◌, ◌*◌}
use Rattle.rule_cells.proofs.templates.+list_rest_template.Given as goal

abbrev pub decreases-list_rest : goal.decreases-list_rest
decreases-list_rest l = 2 * l.node

abbrev pub decreases-template : goal.decreases-template
decreases-template l = 2 * l.node + 1
