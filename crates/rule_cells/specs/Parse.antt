-- What parsing asks and leaves: cells above the old top, children first, at most five words for each item of the tree.
use Rattle.std.specs.Prelude.{◌≡◌, Bool, true, cond, List, ℕ, ◌+◌, ◌*◌, ◌≤◌, length, take, Some, None}
use Rattle.std.specs.declared.option.Option as code
use Rattle.std.proofs.Math.Option.{none, some}
use Rattle.recipe.specs.Name.{Name}
use Rattle.recipe.specs.Tree.{Tree, size, elements, tail}
use Rattle.expansion.specs.Rules.{Place, as_rest, as_taken, variables, pattern_of, template_of}
use Rattle.arena.specs.Arena.{tree_at}
use Rattle.arena.specs.Cells.{Room}
use Rattle.rule_cells.specs.Cells.{pattern_at, template_at}
use Rattle.rule_cells.specs.declared.patterns.ParsedPattern.{ParsedPattern}
use Rattle.rule_cells.specs.declared.rules.Parsed.{Parsed}

-- a tree below the top, with room for its cells and a word to spare
pub record Asks (work : List ℕ) (node w top : ℕ) : Type 0 where
  pub node-below : node ≤ top
  pub wrap-below : w ≤ top
  pub room : Room work top (5 * size (tree_at work node w) + 1)

-- new cells for a tree: reference `at`, top `upper`
pub record Grows (t : Tree) (old new : List ℕ) (top at upper : ℕ) : Type 0 where
  pub at_most : at ≤ upper
  pub up : top ≤ upper
  pub words : upper ≤ top + 5 * size t
  pub kept : take top new ≡ take top old

-- ---- patterns

-- n elements stand behind the ellipsis that the rest of a list begins with, where it does
abbrev pub Behind : (work : List ℕ) (rest : ℕ) (followed : Bool) (n : ℕ) → Type 0
Behind work rest followed n = (w : ℕ) → followed ≡ true → n ≡ length (elements (tail (tree_at work rest w)))

-- the pattern's cells, and the number of the next variable
pub record PatternMade (dots : Name → Bool) (literals : List Name) (k : ℕ) (taken : Bool) (t : Tree) (old new : List ℕ) (top at upper next : ℕ) : Type 0 where
  pub means : pattern_of dots literals k taken t ≡ some (pattern_at new at)
  pub counts : next ≡ k + length (variables dots literals 0 t)
  pub grows : Grows t old new top at upper

-- none exactly where the definition has no pattern
abbrev pub PatternLeft : (dots : Name → Bool) (literals : List Name) (k : ℕ) (taken : Bool) (t : Tree) (old new : List ℕ) (top : ℕ) → code.Option ParsedPattern → Type 0
PatternLeft dots literals k taken t old new top (Some p) = PatternMade dots literals k taken t old new top p.at p.top p.next
PatternLeft dots literals k taken t old new top None = (pattern_of dots literals k taken t ≡ none) × (take top new ≡ take top old)

-- ---- templates

-- the rest of a list, where it begins with the ellipsis that the element before it has taken, or not
unfoldable pub rest_place : (taken : Bool) → Place
rest_place taken = cond taken as_taken as_rest

pub record TemplateMade (dots : Name → Bool) (vs : List (Name × ℕ)) (d : ℕ) (place : Place) (t : Tree) (old new : List ℕ) (top at upper : ℕ) : Type 0 where
  pub means : template_of dots vs d place t ≡ some (template_at new at)
  pub grows : Grows t old new top at upper

-- none exactly where the definition has no template
abbrev pub TemplateLeft : (dots : Name → Bool) (vs : List (Name × ℕ)) (d : ℕ) (place : Place) (t : Tree) (old new : List ℕ) (top : ℕ) → code.Option Parsed → Type 0
TemplateLeft dots vs d place t old new top (Some p) = TemplateMade dots vs d place t old new top p.at p.top
TemplateLeft dots vs d place t old new top None = (template_of dots vs d place t ≡ none) × (take top new ≡ take top old)
