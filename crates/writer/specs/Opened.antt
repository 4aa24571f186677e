-- A node that was opened, whose names have slots: its own, and those of its variables.
use Rattle.std.specs.Prelude.{◌≡◌, ℕ, ◌+◌, Bool, true, ◌&&◌, List, length, nat_le, nat_lt}
use Rattle.words.specs.Lists.{all_of}
use Rattle.datum.specs.NameTable.{has_name}
use Rattle.writer.specs.Called.{Said}
use Rattle.core_term.specs.declared.nodes.Node as C
use Rattle.core_term.specs.Code.Opened.{OpenedAs}
use Rattle.core_term.specs.Node.{Node, got, node_at, variable_n, operation_n, constant_n, name_n, list_n, if_n, lambda_n, application_n}

-- every name of a variable has a slot
unfoldable pub spelled : Said → Bool
spelled said = all_of (has_name said.table) said.called

unfoldable pub named : Said → Node → Bool
named said (variable_n n) = nat_lt n (length said.called) && spelled said
named said (operation_n n) = true
named said (constant_n a) = true
named said (name_n n) = has_name said.table n
named said (list_n n) = true
named said if_n = true
named said (lambda_n first names) = nat_le (first + length names) (length said.called) && spelled said
named said (application_n n) = true

-- the node that was opened
pub record Stands (n : C.Node) (x : Node) : Type 0 where
  pub words : List ℕ
  pub left : List ℕ
  pub opened : OpenedAs words n
  pub is : node_at words ≡ got x left

pub record Opened (said : Said) (n : C.Node) : Type 0 where
  pub it : Node
  pub stands : Stands n it
  pub fits : named said it ≡ true
