-- What rules are read by, as the definition takes it: from the numbers of the code's structs.
use Rattle.std.specs.Prelude.{Bool, List, ℕ}
use Rattle.recipe.specs.Name.{Name}
use Rattle.recipe.specs.Tree.{names}
use Rattle.arena.specs.Arena.{tree_at}
use Rattle.rule_cells.specs.declared.rules_form.Form.{Form}
use Rattle.rule_cells.specs.declared.templates.Scope.{Scope}
use Rattle.rule_cells.specs.Dots.{dots_at}
use Rattle.rule_cells.specs.Variables.{variables_from}

-- which names are a form's ellipsis, and its literals
abbrev pub dots_of : (work : List ℕ) → Form → Name → Bool
dots_of work form = dots_at work form.dots form.wrap

abbrev pub literals_of : (work : List ℕ) → Form → List Name
literals_of work form = names (tree_at work form.literals form.wrap)

-- which names are the ellipsis of a template, and the variables of its rule
abbrev pub dots_under : (work : List ℕ) → Scope → Name → Bool
dots_under work scope = dots_at work scope.dots scope.wrap

abbrev pub variables_under : (work vars : List ℕ) → Scope → List (Name × ℕ)
variables_under work vars scope = variables_from work scope.wrap vars 0 scope.count
