-- A term as its first node and the terms that follow it, which is how code walks through words.
use Rattle.std.specs.Prelude.{Bool, true, ◌&&◌}
use Rattle.datum.specs.Datum.{Datum, constant_d, name_d, list_d, Data, none_d, more_d}
use Rattle.datum.specs.Datum as D
use Rattle.core_term.specs.Node.{Node, is_datum_node, variable_n, operation_n, constant_n, name_n, list_n, if_n, lambda_n, application_n}
use Rattle.core_term.specs.Term.{variable_c, operation_c, datum_c, if_c, lambda_c, application_c, none_c, more_c, count, Plain, Plains}

unfoldable pub datum_node : Datum → Node
datum_node (constant_d a) = constant_n a
datum_node (name_d n) = name_n n
datum_node (list_d ds) = list_n (D.count ds)

unfoldable pub node : Plain → Node
node (variable_c n) = variable_n n
node (operation_c n) = operation_n n
node (datum_c d) = datum_node d
node (if_c x y z) = if_n
node (lambda_c first names body) = lambda_n first names
node (application_c h ts) = application_n (count ts)

-- data as terms
unfoldable pub quoted : Data → Plains
quoted none_d = none_c
quoted (more_d d ds) = more_c (datum_c d) (quoted ds)

unfoldable pub datum_parts : Datum → Plains
datum_parts (constant_d a) = none_c
datum_parts (name_d n) = none_c
datum_parts (list_d ds) = quoted ds

unfoldable pub parts_of : Plain → Plains
parts_of (variable_c n) = none_c
parts_of (operation_c n) = none_c
parts_of (datum_c d) = datum_parts d
parts_of (if_c x y z) = more_c x (more_c y (more_c z none_c))
parts_of (lambda_c first names body) = more_c body none_c
parts_of (application_c h ts) = more_c h ts

unfoldable pub is_datum : Plain → Bool
is_datum t = is_datum_node (node t)

unfoldable pub are_data : Plains → Bool
are_data none_c = true
are_data (more_c t ts) = is_datum t && are_data ts
