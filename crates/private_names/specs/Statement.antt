-- Demand 3 as a test that computes, over the definition of a run, in the words of document 01, 'Runs, copies and private names'; Demand3
-- says it without tests. Nothing is proved here.
use Rattle.std.specs.Prelude.{◌≡◌, Bool, true, false, not, ◌&&◌, ◌||◌, cond, List, [], ◌∷◌, ◌++◌, ℕ, suc, eqb, ltb}
use Rattle.std.proofs.Math.Option.{Option, none, some}
use Rattle.words.specs.Limits.{names_most, base_name_count}
use Rattle.words.specs.Lists.{all_of, any_of}
use Rattle.recipe.specs.Name.{Binding, Name, binding_key}
use Rattle.recipe.specs.Tree.{Tree, empty, constant, name, pair, names, on_name, element}
use Rattle.recipe.specs.Table.{items, tree_of}
use Rattle.core_term.specs.Term.{Term, on_formals}
use Rattle.core_term.specs.Words.{encode}
use Rattle.expansion.specs.Rules.{rule_list, rule_template, has_variable}
use Rattle.expansion.specs.Forms.{rules_form_of}
use Rattle.expansion.specs.Computation.{Event, looked, quoted, reached, binds, Events}
use Rattle.expansion.specs.Run.{Outcome, Run, core_of, run}

-- what demand 3 takes: a let-syntax or letrec-syntax, by the item of its head name; one of its macros and one of that macro's rules,
-- both counted from 0; the old name and the new, by number
pub record Choice : Type 0 where
  pub form : ℕ
  pub macro : ℕ
  pub rule : ℕ
  pub old : ℕ
  pub new : ℕ

-- ---- the rule, by its place in the recipe

-- the trees of which a tree is built, itself first
unfoldable pub parts : Tree → List Tree
parts empty = empty ∷ []
parts (constant a) = constant a ∷ []
parts (name x) = name x ∷ []
parts (pair h t) = pair h t ∷ (parts h ++ parts t)

unfoldable pub first_with : (Tree → Bool) → List Tree → Tree
first_with f [] = empty
first_with f (t ∷ ts) = let later = first_with f ts in cond (f t) t later

-- the list's head is the name of item i
unfoldable pub has_head : ℕ → Tree → Bool
has_head i t = on_name (λ x. eqb x.item i) false (element 0 t)

-- the form
unfoldable pub form_at : Tree → Choice → Tree
form_at t c = first_with (has_head c.form) (parts t)

-- the rules of the macro, (syntax-rules (literal ...) (pattern template) ...), with or without an ellipsis of its author's choice
unfoldable pub rules_at : Tree → Choice → Tree
rules_at t c = rules_form_of c.macro (form_at t c)

-- the rule, (pattern template)
unfoldable pub rule_at : Tree → Choice → Tree
rule_at t c = element c.rule (rule_list (rules_at t c))

-- that template
unfoldable pub template_at : Tree → Choice → Tree
template_at t c = rule_template (rule_at t c)

-- a variable of the rule has this number: neither the ellipsis nor `_` nor a literal, and not in the pattern's first place; an ellipsis
-- name of the author's choice counts as one
unfoldable pub is_variable_at : Tree → Choice → ℕ → Bool
is_variable_at t c n = has_variable c.rule n (rules_at t c)

-- ---- the old name and the new

-- an item of that name in that template
abbrev pub is_item_of : (template : Tree) (old : ℕ) → ℕ → Bool
is_item_of template old i = any_of (λ x. eqb x.number old && eqb x.item i) (names template)

unfoldable pub is_old_item : Tree → Choice → ℕ → Bool
is_old_item t c = is_item_of (template_at t c) c.old

-- any name in its template, neither `...` nor `_`, that is no variable of the rule
unfoldable pub is_private : Tree → Choice → Bool
is_private t c =
    any_of (λ x. eqb x.number c.old) (names (template_at t c))
    && (not (eqb c.old 6) && (not (eqb c.old 7) && not (is_variable_at t c c.old)))

-- a name that neither the recipe nor the base forms use: any number from 8 to 1,023 that no name item of the table holds
unfoldable pub is_new : List ℕ → ℕ → Bool
is_new ws n = not (ltb n base_name_count) && (ltb n names_most && all_of (λ x. not (eqb x.kind 3 && eqb x.first n)) (items 0 ws))

-- the table, placed from i, with number n in place of the number of each name item that C tells
unfoldable pub renumber : (C : ℕ → Bool) → ℕ → ℕ → List ℕ → List ℕ
renumber C n i [] = []
renumber C n i (k ∷ []) = k ∷ []
renumber C n i (k ∷ a ∷ []) = k ∷ a ∷ []
renumber C n i (k ∷ a ∷ b ∷ ws) = k ∷ cond (eqb k 3 && C i) n a ∷ b ∷ renumber C n (suc i) ws

-- the new name in place of the old throughout that template, every other name keeping its number
unfoldable pub renamed : List ℕ → Choice → List ℕ
renamed ws c = renumber (is_old_item (tree_of ws) c) c.new 0 ws

-- ---- what the first run shows

-- a form is reached other than through a macro's result: the run comes to it, and its head name never stood in a step's result
unfoldable pub is_reached_at : ℕ → Event → Bool
is_reached_at i (looked x) = false
is_reached_at i (quoted x) = false
is_reached_at i (reached x) = not x.produced && eqb x.item i
is_reached_at i (binds b x) = false

-- a copy: a name in a step's result that stems from an item of that name in that template (C), whatever its marks and binding
unfoldable pub is_copy : (C : ℕ → Bool) → Name → Bool
is_copy C x = x.produced && C x.item

-- the event makes this binding, and its own name, the name at the place where its form bound it, is a copy
unfoldable pub binds_copy : (C : ℕ → Bool) → Binding → Event → Bool
binds_copy C b (looked x) = false
binds_copy C b (quoted x) = false
binds_copy C b (reached x) = false
binds_copy C b (binds c x) = eqb (binding_key (some b)) (binding_key (some c)) && is_copy C x

-- a binding whose own name is such a copy
unfoldable pub is_owned_by_copy : (C : ℕ → Bool) → Events → Option Binding → Bool
is_owned_by_copy C shown none = false
is_owned_by_copy C shown (some b) = any_of (binds_copy C b) shown

-- no copy of the old name is quoted
unfoldable pub quotes_no_copy : (C : ℕ → Bool) → Event → Bool
quotes_no_copy C (looked x) = true
quotes_no_copy C (quoted x) = not (is_copy C x)
quotes_no_copy C (reached x) = true
quotes_no_copy C (binds b x) = true

-- each lookup of a copy, of all four kinds, finds a binding whose own name is such a copy
unfoldable pub finds_own : (C : ℕ → Bool) → Events → Event → Bool
finds_own C shown (looked x) = not (is_copy C x) || is_owned_by_copy C shown x.binding
finds_own C shown (quoted x) = true
finds_own C shown (reached x) = true
finds_own C shown (binds b x) = true

-- ---- the claim

-- the hypotheses on a recipe and what its first run shows, one by one: the form is reached other than through a macro's result; the
-- old name is private; the new name is new; no copy is quoted; each lookup of a copy finds a binding whose own name is such a copy
unfoldable pub hypotheses : List ℕ → Choice → Events → List Bool
hypotheses ws c shown =
    any_of (is_reached_at c.form) shown
    ∷ is_private (tree_of ws) c
    ∷ is_new ws c.new
    ∷ all_of (quotes_no_copy (is_old_item (tree_of ws) c)) shown
    ∷ all_of (finds_own (is_old_item (tree_of ws) c) shown) shown
    ∷ []

-- outcome, the two counts, and the core term word for word
pub record Answer : Type 0 where
  pub outcome : Outcome
  pub steps : ℕ
  pub sum : ℕ
  pub core : List ℕ

unfoldable pub answer_of : Run → Answer
answer_of r = record { outcome = r.outcome; steps = r.steps; sum = r.sum; core = core_of r }

-- a formal's name word, with number n where a copy stands
unfoldable pub formal_number : (C : ℕ → Bool) → ℕ → Name → ℕ
formal_number C n x = cond (is_copy C x) n x.number

-- a run's core term, with number n in those name words alone
unfoldable pub core_with : (C : ℕ → Bool) → ℕ → Option (Term Name) → List ℕ
core_with C n none = []
core_with C n (some t) = encode (on_formals (formal_number C n) t)

unfoldable pub answer_with : (C : ℕ → Bool) → ℕ → Run → Answer
answer_with C n r = record { outcome = r.outcome; steps = r.steps; sum = r.sum; core = core_with C n r.term }

-- demand 3, whatever the recipe, fuel and lengths of lent tables. A fresh private name may be seen in the name words alone: where a
-- copy stands, one run has the old number and the other the new; all else agrees
unfoldable pub PrivateNames : Type 0
PrivateNames =
    (ws : List ℕ) (fuel work core : ℕ) (c : Choice)
    → all_of (λ h. h) (hypotheses ws c (run ws fuel work core).events) ≡ true
    → (answer_of (run ws fuel work core) ≡ answer_with (is_old_item (tree_of ws) c) c.old (run ws fuel work core))
    × (answer_of (run (renamed ws c) fuel work core) ≡ answer_with (is_old_item (tree_of ws) c) c.new (run ws fuel work core))
