-- What parsing rules asks and leaves.
use Rattle.std.specs.Prelude.{◌≡◌, Bool, false, not, ◌&&◌, List, ◌∷◌, ℕ, ◌+◌, ◌*◌, ◌≤◌, take, Some, None}
use Rattle.std.specs.declared.option.Option as code
use Rattle.std.proofs.Math.Option.{Option, none, some}
use Rattle.words.specs.Options.{only_if, map_both}
use Rattle.recipe.specs.Name.{Name}
use Rattle.recipe.specs.Tree.{Tree, size, on_name, is_list_of, element}
use Rattle.expansion.specs.Rules.{rule_pattern, Rule, as_element, are_variables, variables, pattern_of, template_of}
use Rattle.arena.specs.Arena.{tree_at}
use Rattle.arena.specs.Cells.{Room}
use Rattle.rule_cells.specs.Cells.{rules_at}
use Rattle.rule_cells.specs.declared.rules_form.Form.{Form}
use Rattle.rule_cells.specs.declared.rules.Parsed.{Parsed}
use Rattle.rule_cells.specs.Dots.{DotsBelow}

-- (pattern template); a pattern's first place is a name other than the ellipsis
unfoldable pub rule_shape : (dots : Name → Bool) → Tree → Bool
rule_shape dots t = is_list_of 2 t && on_name (λ x. not (dots x)) false (element 0 (rule_pattern t))

-- a rule from the rest of its pattern and its template
unfoldable pub parts_of : (dots : Name → Bool) → List Name → Tree → Tree → Option Rule
parts_of dots literals p q =
    let vs = variables dots literals 0 p in
    only_if (are_variables vs) (map_both (λ x y. record { pattern = x; template = y }) (pattern_of dots literals 0 false p) (template_of dots vs 0 as_element q))

pub record PartsAsk (work : List ℕ) (form : Form) (p q next top : ℕ) : Type 0 where
  pub dots-below : DotsBelow form.dots top
  pub literals-below : form.literals ≤ top
  pub p-below : p ≤ top
  pub q-below : q ≤ top
  pub wrap-below : form.wrap ≤ top
  pub next-below : next ≤ top
  pub room : Room work top (5 * (size (tree_at work p form.wrap) + size (tree_at work q form.wrap) + 1) + 1)

-- a rule's cell before those at `next`, for a tree of `items` s
pub record RuleMade (o : Option Rule) (s : ℕ) (old new : List ℕ) (next top at upper : ℕ) : Type 0 where
  pub rule : Rule
  pub is : o ≡ some rule
  pub means : rules_at new at ≡ rule ∷ rules_at old next
  pub at_most : at ≤ upper
  pub up : top ≤ upper
  pub words : upper ≤ top + 5 * s
  pub kept : take top new ≡ take top old

-- none exactly where the definition has no rule
abbrev pub RuleLeft : (o : Option Rule) (s : ℕ) (old new : List ℕ) (next top : ℕ) → code.Option Parsed → Type 0
RuleLeft o s old new next top (Some p) = RuleMade o s old new next top p.at p.top
RuleLeft o s old new next top None = (o ≡ none) × (take top new ≡ take top old)

-- the cells of a list of rules
pub record RulesMade (o : Option (List Rule)) (s : ℕ) (old new : List ℕ) (top at upper : ℕ) : Type 0 where
  pub means : o ≡ some (rules_at new at)
  pub at_most : at ≤ upper
  pub up : top ≤ upper
  pub words : upper ≤ top + 5 * s
  pub kept : take top new ≡ take top old

-- none exactly where the definition has no rules
abbrev pub RulesLeft : (o : Option (List Rule)) (s : ℕ) (old new : List ℕ) (top : ℕ) → code.Option Parsed → Type 0
RulesLeft o s old new top (Some p) = RulesMade o s old new top p.at p.top
RulesLeft o s old new top None = (o ≡ none) × (take top new ≡ take top old)
