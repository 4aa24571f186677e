use Rattle.rule_cells.proofs.rules.+rule_list.Given as goal

abbrev pub decreases-rule_list : goal.decreases-rule_list
decreases-rule_list l = l.node
