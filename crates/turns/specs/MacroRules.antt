-- What reading the rules of a form's macros asks and leaves: macro `count` and those after it, in the table of macros.
use Rattle.std.specs.Prelude.{◌≡◌, List, [], ◌∷◌, ◌++◌, map, ℕ, ◌+◌, ◌*◌, ◌^◌, ◌≤◌, ◌<◌, length, get_or, take, Option, Some, None}
use Rattle.std.proofs.Math.Option.{none, some}
use Rattle.words.specs.Options.{traverse}
use Rattle.recipe.specs.Tree.{Tree, size, elements, element}
use Rattle.expansion.specs.Rules.{Rule, rules_of}
use Rattle.arena.specs.Arena.{tree_at}
use Rattle.rule_cells.specs.Parse.{Asks}
use Rattle.turns.specs.Memory.{macros_at}

-- the first macros' rules stand below the top
abbrev pub Below : (macros : List ℕ) (count top : ℕ) → Type 0
Below macros count top = (k : ℕ) → k < count → get_or macros k 0 ≤ top

-- ---- one macro

pub record OneAsk (work macros : List ℕ) (form w count top : ℕ) : Type 0 where
  pub asks : Asks work form w top
  pub slot : count < length macros
  pub below : Below macros count top

pub record OneRead (form : Tree) (work work' macros macros' : List ℕ) (count top upper : ℕ) : Type 0 where
  pub rules : List Rule
  pub is : rules_of form ≡ some rules
  pub means : macros_at work' macros' (count + 1) ≡ macros_at work macros count ++ (rules ∷ [])
  pub below : Below macros' (count + 1) upper
  pub up : top ≤ upper
  pub words : upper ≤ top + 5 * size form
  pub kept : take top work' ≡ take top work
  pub known : take count macros' ≡ take count macros

abbrev pub OneLeft : (form : Tree) (work work' macros macros' : List ℕ) (count top : ℕ) → Option ℕ → Type 0
OneLeft form work work' macros macros' count top (Some upper) = OneRead form work work' macros macros' count top upper
OneLeft form work work' macros macros' count top None = rules_of form ≡ none

-- ---- a list of (name rules)

unfoldable pub forms_in : Tree → List Tree
forms_in t = map (element 1) (elements t)

pub record AllAsk (work macros : List ℕ) (list w count top : ℕ) : Type 0 where
  pub asks : Asks work list w top
  pub slots : count + length (forms_in (tree_at work list w)) ≤ length macros
  pub few : count + length (forms_in (tree_at work list w)) < 2 ^ 32
  pub below : Below macros count top

pub record AllRead (list : Tree) (work work' macros macros' : List ℕ) (count top upper : ℕ) : Type 0 where
  pub rules : List (List Rule)
  pub is : traverse rules_of (forms_in list) ≡ some rules
  pub means : macros_at work' macros' (count + length (forms_in list)) ≡ macros_at work macros count ++ rules
  pub below : Below macros' (count + length (forms_in list)) upper
  pub up : top ≤ upper
  pub words : upper ≤ top + 5 * size list
  pub kept : take top work' ≡ take top work
  pub known : take count macros' ≡ take count macros

-- bad exactly where the definition lacks the rules of one
abbrev pub AllLeft : (list : Tree) (work work' macros macros' : List ℕ) (count top : ℕ) → Option ℕ → Type 0
AllLeft list work work' macros macros' count top (Some upper) = AllRead list work work' macros macros' count top upper
AllLeft list work work' macros macros' count top None = traverse rules_of (forms_in list) ≡ none

-- rules are read up to the node's: what reading those leaves is what reading the whole list leaves
pub record Reading (old known : List ℕ) (list w count top : ℕ) (work macros : List ℕ) (node n end : ℕ) : Type 0 where
  pub ask : AllAsk work macros node w n end
  pub whole : (new macros' : List ℕ) (r : Option ℕ) → AllLeft (tree_at work node w) work new macros macros' n end r → AllLeft (tree_at old list w) old new known macros' count top r
