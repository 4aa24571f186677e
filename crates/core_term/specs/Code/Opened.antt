-- What opening the node at the beginning of words tells: the node that node_at reads, and its shape.
use Rattle.std.specs.Prelude.{◌≡◌, Bool, true, false, List, ℕ, ◌+◌, ◌≤◌, length, take, drop, Some, None}
use Rattle.std.specs.declared.option.Option.{Option}
use Rattle.datum.specs.Constant.{integer, boolean, decimal}
use Rattle.core_term.specs.Node as N
use Rattle.core_term.specs.Node.{Got, got, missing, node_at, node_words, parts, binds, is_list_node}
use Rattle.core_term.specs.declared.nodes.Shape.{Shape}
use Rattle.core_term.specs.declared.nodes.Node.{Node}
use Rattle.core_term.specs.declared.nodes.Node.TheVariants.{Variable, Operation, Integer, Boolean, Decimal, Name, List as Several, If, Lambda, Application}

unfoldable pub node_in : List ℕ → Node → Got N.Node
node_in ws (Variable n) = got (N.variable_n n) (drop 2 ws)
node_in ws (Operation n) = got (N.operation_n n) (drop 2 ws)
node_in ws (Integer w) = got (N.constant_n (integer w)) (drop 2 ws)
node_in ws (Boolean w) = got (N.constant_n (boolean w)) (drop 2 ws)
node_in ws (Decimal w p) = got (N.constant_n (decimal w p)) (drop 3 ws)
node_in ws (Name n) = got (N.name_n n) (drop 2 ws)
node_in ws (Several n) = got (N.list_n n) (drop 2 ws)
node_in ws If = got N.if_n (drop 1 ws)
node_in ws (Lambda first count) = got (N.lambda_n first (take count (drop 3 ws))) (drop (3 + count) ws)
node_in ws (Application n) = got (N.application_n n) (drop 2 ws)

-- that of an answer which may be none
unfoldable pub opened_in : List ℕ → Option Node → Got N.Node
opened_in ws None = missing
opened_in ws (Some n) = node_in ws n

-- ---- shapes

unfoldable pub shape_by : ℕ → ℕ → ℕ → Bool → Shape
shape_by own names n quoted = record { own = own; names = names; parts = n; quoted = quoted }

unfoldable pub shape_in : Node → Shape
unfolding shape_by
shape_in (Variable n) = shape_by 2 0 0 false
shape_in (Operation n) = shape_by 2 0 0 false
shape_in (Integer w) = shape_by 2 0 0 false
shape_in (Boolean w) = shape_by 2 0 0 false
shape_in (Decimal w p) = shape_by 3 0 0 false
shape_in (Name n) = shape_by 2 0 0 false
shape_in (Several n) = shape_by 2 0 n true
shape_in If = shape_by 1 0 3 false
shape_in (Lambda first count) = shape_by (3 + count) count 1 false
shape_in (Application n) = shape_by 2 0 (n + 1) false

-- what a shape says of a node
pub record Shaped (x : N.Node) (s : Shape) : Type 0 where
  pub own : s.own ≡ length (node_words x)
  pub names : s.names ≡ binds x
  pub rest : s.parts ≡ parts x
  pub inner : s.quoted ≡ is_list_node x

-- the shape of the node at the beginning of words
abbrev pub ShapedAt : List ℕ → Shape → Type 0
ShapedAt ws s = (x : N.Node) (left : List ℕ) → node_at ws ≡ got x left → Shaped x s

-- the same of an answer which may be none: then no node is there
abbrev pub ShapeAt : List ℕ → Option Shape → Type 0
ShapeAt ws None = node_at ws ≡ missing
ShapeAt ws (Some s) = ShapedAt ws s

-- a node that was opened, all its own words there
pub record OpenedAs (ws : List ℕ) (n : Node) : Type 0 where
  pub is : node_in ws n ≡ node_at ws
  pub room : (shape_in n).own ≤ length ws

-- one that was opened, or none where none is there
abbrev pub ReadAs : List ℕ → Option Node → Type 0
ReadAs ws None = node_at ws ≡ missing
ReadAs ws (Some n) = OpenedAs ws n
