-- Demand 3, phrase by phrase, over the definition of a run: each condition is an argument of its own, said of the events that the first
-- run shows, of names and of items. Nothing is proved here; `demand-3` (crate private_names_proof) is its proof.
use Rattle.std.specs.Prelude.{◌≡◌, Bool, true, false, ℕ, ◌≤◌, ◌<◌}
use mathlib.Core.List.{List, Memᴰ}
use Rattle.std.proofs.Math.Option.{Option, some}
use Rattle.recipe.specs.Name.{Binding, Name}
use Rattle.recipe.specs.Tree.{Tree, name, names, element}
use Rattle.recipe.specs.Table.{Item, items, tree_of}
use Rattle.expansion.specs.Rules.{literal_list, rule_list, ellipsis_of, rule_template, rule_variables}
use Rattle.expansion.specs.Forms.{rules_form_of}
use Rattle.expansion.specs.Computation.{looked, quoted, reached, binds, Events}
use Rattle.expansion.specs.Run.{Run, core_of, run}
use Rattle.private_names.specs.Statement.{parts, is_item_of, renumber, core_with}

-- rule `rule` of macro `macro` of a form, both counted from 0; its variables, and its template
abbrev pub rule_in : (form : Tree) (macro rule : ℕ) → Tree
rule_in form macro rule = element rule (rule_list (rules_form_of macro form))

abbrev pub variables_in : (form : Tree) (macro rule : ℕ) → List (Name × ℕ)
variables_in form macro rule = rule_variables (ellipsis_of (rules_form_of macro form)) (names (literal_list (rules_form_of macro form))) (rule_in form macro rule)

abbrev pub template_in : (form : Tree) (macro rule : ℕ) → Tree
template_in form macro rule = rule_template (rule_in form macro rule)

-- a copy of the old name: a name in a step's result that stems from an item of that name in that template
pub record Copy (template : Tree) (old : ℕ) (x : Name) : Type 0 where
  pub produced : x.produced ≡ true
  pub source : Name
  pub inside : Memᴰ source (names template)
  pub number : source.number ≡ old
  pub item : source.item ≡ x.item

-- a binding whose own name, the name at the place where its form bound it, is such a copy
pub record OwnCopy (template : Tree) (old : ℕ) (shown : Events) (found : Option Binding) : Type 0 where
  pub binding : Binding
  pub own : Name
  pub is : found ≡ some binding
  pub bound : Memᴰ (binds binding own) shown
  pub copy : Copy template old own

-- what the demand takes, and what it asks; and then P of the recipe, the fuel, the lengths of the lent tables, the template, the old number
-- and the new
unfoldable pub Whenever : ((ws : List ℕ) (fuel work core : ℕ) (template : Tree) (old new : ℕ) → Type 0) → Type 0
Whenever P =
    -- "Whatever the recipe, fuel and lent tables"
    (ws : List ℕ) (fuel work core : ℕ)
    -- "Take any rule of a let-syntax or letrec-syntax": a list of the recipe, whose first element is the form's name
    (form : Tree) (head : Name) (macro rule : ℕ)
    → Memᴰ form (parts (tree_of ws))
    → element 0 form ≡ name head
    -- "reached other than through a macro's result": the run comes to that name, which never stood in a step's result
    → (at : Name)
    → Memᴰ (reached at) (run ws fuel work core).events
    → at.item ≡ head.item
    → at.produced ≡ false
    -- "any name in its template"
    → (old : Name)
    → Memᴰ old (names (template_in form macro rule))
    -- "neither ... nor _"
    → (old.number ≡ 6 → ⊥)
    → (old.number ≡ 7 → ⊥)
    -- "that is no variable of the rule": nor the ellipsis of the author's choice, which counts as one (request L3)
    → ((v : Name × ℕ) → Memᴰ v (variables_in form macro rule) → v.0.number ≡ old.number → ⊥)
    → ((dots : Name) → element 1 (rules_form_of macro form) ≡ name dots → dots.number ≡ old.number → ⊥)
    -- "any new name that neither the recipe nor the base forms use"
    → (new : ℕ)
    → 8 ≤ new
    → new < 1024
    → ((x : Item) → Memᴰ x (items 0 ws) → x.kind ≡ 3 → x.first ≡ new → ⊥)
    -- "Whenever in the first run no copy of the old name is quoted"
    → ((x : Name) → Memᴰ (quoted x) (run ws fuel work core).events → Copy (template_in form macro rule) old.number x → ⊥)
    -- "each lookup of a copy finds a binding whose own name is such a copy"
    → ((x : Name) → Memᴰ (looked x) (run ws fuel work core).events → Copy (template_in form macro rule) old.number x → OwnCopy (template_in form macro rule) old.number (run ws fuel work core).events x.binding)
    → P ws fuel work core (template_in form macro rule) old.number new

-- "Put the new name in place of the old throughout that template, every other name keeping its number"
abbrev pub second : (ws : List ℕ) (template : Tree) (old new : ℕ) → List ℕ
second ws template old new = renumber (is_item_of template old) new 0 ws

-- "both runs, accepted or refused, have the same outcome, the same two counts and, word for word, the same core term", but for the name
-- words where a copy stands: there one has the old number and the other the new (request L5)
pub record Alike (copies : ℕ → Bool) (old new : ℕ) (first second : Run) : Type 0 where
  pub outcome : second.outcome ≡ first.outcome
  pub steps : second.steps ≡ first.steps
  pub sum : second.sum ≡ first.sum
  pub core-first : core_of first ≡ core_with copies old first.term
  pub core-second : core_of second ≡ core_with copies new first.term

-- "run both recipes with equal fuel and tables of equal lengths"
unfoldable pub Demand3 : Type 0
Demand3 = Whenever λ ws fuel work core template old new.
    Alike (is_item_of template old) old new (run ws fuel work core) (run (second ws template old new) fuel work core)
