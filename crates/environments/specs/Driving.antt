-- Driving lists by what entries stand for.
use Rattle.std.specs.Prelude.{◌≡◌, Result, Ok, Err, ℕ, ◌<◌, ◌≤◌, true, false, List, ◌∷◌, map, nat_eq}
use Rattle.words.specs.Limits.{pattern_variables_most, depth_most}
use Rattle.words.specs.Lists.{all_of}
use Rattle.expansion.specs.Rules.{Template, variable_t, insert_t, constant_t, empty_t, pair_t, ellipsis_t, drivers}
use Rattle.rule_cells.specs.Cells.{template_at}
use Rattle.environments.specs.declared.lengths.Differ.{Differ}
use Rattle.environments.specs.Lengths.{Driving, after}
use Rattle.environments.specs.Taken.{Taken, count, taken, lengths, copy_count}
use Rattle.environments.specs.Columns.{entry_of, EntryStands}

-- what is so of every variable of a template
unfoldable pub Over : (ℕ → ℕ → Type 0) → Template → Type 0
Over Q (variable_t k d) = Q k d
Over Q (insert_t x) = Unit {0}
Over Q (constant_t a) = Unit {0}
Over Q empty_t = Unit {0}
Over Q (pair_t a b) = Over Q a × Over Q b
Over Q (ellipsis_t e r) = Over Q e × Over Q r

-- within the limits, and its entry stands for what it takes
pub record Entered (work env : List ℕ) (base low high w : ℕ) (v : ℕ → Taken) (k d : ℕ) : Type 0 where
  pub few : k < pattern_variables_most
  pub shallow : d ≤ depth_most
  pub stands : EntryStands work base low high w (entry_of env k) (v k)

-- entries stand for what the variables of a template take
abbrev pub Known : (work env : List ℕ) (base low high w : ℕ) (v : ℕ → Taken) → Template → Type 0
Known work env base low high w v t = Over (Entered work env base low high w v) t

-- the lengths of the lists that drive an element; t is the part of it under j ellipses
unfoldable pub lengths_under : (v : ℕ → Taken) (is : List ℕ) (j : ℕ) → Template → List ℕ
lengths_under v is j t = map (λ x. count (taken v is x.0 x.1)) (drivers j t)

abbrev pub DrivenBy : (work env : List ℕ) (j t inner : ℕ) (before r : Driving) → Type 0
DrivenBy work env j t inner before r =
    (base low high w : ℕ) (v : ℕ → Taken) (is : List ℕ) → Known work env base low high w v (template_at work t) → r ≡ after before (lengths_under v (inner ∷ is) j (template_at work t))

-- an element gets c copies, and the lists that drive it, if any, have c elements each; or they differ
abbrev pub CountedBy : (work env : List ℕ) (e inner : ℕ) → Result ℕ Differ → Type 0
CountedBy work env e inner (Ok c) =
    (base low high w : ℕ) (v : ℕ → Taken) (is : List ℕ) → Known work env base low high w v (template_at work e)
    → (c ≡ copy_count v (inner ∷ is) (template_at work e)) × (true ≡ all_of (nat_eq c) (lengths v (inner ∷ is) (template_at work e)))
CountedBy work env e inner (Err d) =
    (base low high w : ℕ) (v : ℕ → Taken) (is : List ℕ) → Known work env base low high w v (template_at work e)
    → false ≡ all_of (nat_eq (copy_count v (inner ∷ is) (template_at work e))) (lengths v (inner ∷ is) (template_at work e))
