-- Going through the words of a term node by node, with the names that its lambdas hold one after another.
use Rattle.std.specs.Prelude.{◌≡◌, true, ℕ, ◌≤◌, drop}
use mathlib.Core.List.{List, []}
use Rattle.std.proofs.Math.Option.{Option, none, some}
use Rattle.std.proofs.Math.ListN.{length}
use Rattle.core_term.specs.Node.{Node, got, node_at, variable_n, operation_n, constant_n, name_n, list_n, if_n, lambda_n, application_n}
use Rattle.core_term.specs.Term.{none_c, more_c, Plain, Plains, formals_of, formals_all}
use Rattle.core_term.specs.Words.{encode_all}
use Rattle.core_term.specs.Decode.{decode}
use Rattle.core_term.specs.Every.{every_term, proper}

-- those that words tell
unfoldable pub names_from : Option Plain → List ℕ
names_from none = []
names_from (some t) = formals_of t

unfoldable pub called_in : List ℕ → List ℕ
called_in ws = names_from (decode ws)

abbrev pub IsTerm : List ℕ → Type 0
IsTerm ws = (t : Plain) × (decode ws ≡ some t)

-- words that begin with a node
pub record NodeHere (ws : List ℕ) : Type 0 where
  pub it : Node
  pub left : List ℕ
  pub is : node_at ws ≡ got it left

-- the names that a node binds
unfoldable pub node_names : Node → List ℕ
node_names (variable_n n) = []
node_names (operation_n n) = []
node_names (constant_n a) = []
node_names (name_n n) = []
node_names (list_n n) = []
node_names if_n = []
node_names (lambda_n first names) = names
node_names (application_n n) = []

-- ---- rows of terms, one behind the other

unfoldable pub join : Plains → Plains → Plains
join none_c us = us
join (more_c t ts) us = more_c t (join ts us)

-- ---- from node to node

-- at a place in a term's words, with so many names before it
pub record Scan (ws : List ℕ) (at seen : ℕ) : Type 0 where
  pub todo : Plains
  pub before : ℕ
  pub fine : every_term proper tt before todo ≡ true
  pub inside : at ≤ length ws
  pub place : drop at ws ≡ encode_all todo
  pub known : seen ≤ length (called_in ws)
  pub names : drop seen (called_in ws) ≡ formals_all todo
