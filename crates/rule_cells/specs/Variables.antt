-- The variables of a pattern in a small table: two words each, the node of its name and its depth; all lie under one wrap.
use Rattle.std.specs.Prelude.{◌≡◌, Bool, true, false, List, [], ◌∷◌, ◌++◌, ℕ, zero, suc, ◌+◌, ◌*◌, ◌-◌, ◌≤◌, ◌<◌, get_or, Some, None}
use Rattle.std.proofs.Math.Option.{Option}
use Rattle.recipe.specs.Name.{Name}
use Rattle.recipe.specs.Tree.{Tree}
use Rattle.expansion.specs.Rules.{are_variables, depth_before, variable_from, variables}
use Rattle.arena.specs.Arena.{name_at, tree_at}
use Rattle.std.specs.declared.option.Option as code

-- variable i of the table, with the number of ellipses it lies under
unfoldable pub variable_at : (work : List ℕ) (w : ℕ) (vars : List ℕ) → ℕ → Name × ℕ
variable_at work w vars i = (name_at work (get_or vars (2 * i) 0) w, get_or vars (2 * i + 1) 0)

-- n variables from number i on
unfoldable pub variables_from : (work : List ℕ) (w : ℕ) (vars : List ℕ) → (i n : ℕ) → List (Name × ℕ)
variables_from work w vars i zero = []
variables_from work w vars i (suc n) = variable_at work w vars i ∷ variables_from work w vars (suc i) n

-- what the variables from number i up to `end` say of a name
abbrev pub known_from : (work : List ℕ) (w : ℕ) (vars : List ℕ) (x : Name) → (end i : ℕ) → Option (ℕ × ℕ)
known_from work w vars x end i = variable_from i (variables_from work w vars i (end - i)) x

-- the depth of an element before this rest of its list
abbrev pub Deeper : (dots : Name → Bool) (rest : Tree) (d r : ℕ) → Type 0
Deeper dots rest d r = r ≡ depth_before dots rest d

-- ---- gathering

-- the table's variables keep the limits
pub record Held (work : List ℕ) (w : ℕ) (vars : List ℕ) (n : ℕ) : Type 0 where
  pub most : n ≤ 16
  pub good : are_variables (variables_from work w vars 0 n) ≡ true

-- the nodes of the table's variables stand below b
abbrev pub Under : (vars : List ℕ) (n b : ℕ) → Type 0
Under vars n b = (i : ℕ) → i < n → get_or vars (2 * i) 0 ≤ b

-- the variables `more`, of nodes up to `node`, behind the n of the table
pub record Stored (more : List (Name × ℕ)) (work : List ℕ) (w node n : ℕ) (old new : List ℕ) (m : ℕ) : Type 0 where
  pub list : variables_from work w new 0 m ≡ variables_from work w old 0 n ++ more
  pub held : Held work w new m
  pub under : (b : ℕ) → node ≤ b → Under old n b → Under new m b

-- they are stored, and the table holds so many, or break the limits, whatever comes after them: more than 16, two the same, or one under three ellipses
abbrev pub Gathered : (more : List (Name × ℕ)) (work : List ℕ) (w node n : ℕ) (old new : List ℕ) → code.Option ℕ → Type 0
Gathered more work w node n old new (Some m) = Stored more work w node n old new m
Gathered more work w node n old new None = (rest : List (Name × ℕ)) → are_variables (variables_from work w old 0 n ++ (more ++ rest)) ≡ false

-- the list `at` is left of the node's, and its variables behind the m of the table are all the node's behind the n
pub record Gathering (dots : Name → Bool) (literals : List Name) (d : ℕ) (work : List ℕ) (w node n : ℕ) (old : List ℕ) (at m : ℕ) (vars : List ℕ) : Type 0 where
  pub low : at ≤ node
  pub held : Held work w vars m
  pub all : (new : List ℕ) (r : code.Option ℕ) → Gathered (variables dots literals d (tree_at work at w)) work w at m vars new r → Gathered (variables dots literals d (tree_at work node w)) work w node n old new r
