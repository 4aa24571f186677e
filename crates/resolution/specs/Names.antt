-- Names in the arena: what is in hand when one is resolved, and what a lookup finds.
use Rattle.std.specs.Prelude.{◌≡◌, Bool, Some, None, cond, List, ℕ, ◌-◌, ◌≤◌, eqb, ltb, length, get_or, take}
use Rattle.words.specs.Limits.{base_name_count}
use Rattle.recipe.specs.Name.{variable, macro, Name, binding_key}
use Rattle.expansion.specs.Lookup.{Found, bound, form, operation, nothing, form_of, or_unbound, agree}
use Rattle.arena.specs.Arena.{step_limit, newest, number_of, name_at}
use Rattle.resolution.specs.Marks.{Hand, Holds}
use Rattle.resolution.specs.declared.names.Meaning.{Meaning}
use Rattle.resolution.specs.declared.names.Meaning.TheVariants.{Variable, Macro, Form, Operation}
use Rattle.std.specs.declared.option.Option.{Option}

-- the name of a node under a wrap is in hand
pub record Resolved (work : List ℕ) (node w : ℕ) (old new : List ℕ) (start count binding : ℕ) : Type 0 where
  pub holds : Holds (name_at work node w) new start count (number_of work node) binding
  pub hand : Hand new start count
  pub kept : take start new ≡ take start old

-- a name as a binder keeps it
pub record Summed (x : Name) (binding count mark : ℕ) : Type 0 where
  pub binding-is : binding ≡ binding_key x.binding
  pub count-is : count ≡ length x.marks
  pub newest-is : mark ≡ newest x.marks
  pub most : count ≤ step_limit

-- ---- lookups

-- what the code's answer stands for
unfoldable pub means_of : Meaning → Found
means_of (Variable n) = bound (variable n)
means_of (Macro n) = bound (macro n)
means_of (Form k) = form (form_of k)
means_of (Operation p) = operation p

unfoldable pub found_of : Option Meaning → Found
found_of (Some m) = means_of m
found_of None = nothing

-- operations by number: a table that holds each one's place, counted from 1; 0 is no operation
unfoldable pub operation_at : ℕ → Found
operation_at p = cond (eqb p 0) nothing (operation (p - 1))

unfoldable pub unbound_in : (places : List ℕ) → ℕ → Found
unbound_in places n = cond (ltb n base_name_count) (form (form_of n)) (operation_at (get_or places n 0))

unfoldable pub lookup_in : (places : List ℕ) → Name → Found
lookup_in places x = or_unbound x.binding (unbound_in places x.number)

-- a literal, by its number and its binding's key, agrees with a name
abbrev pub Agrees : (number binding : ℕ) → Name → Bool → Type 0
Agrees number binding y r = (x : Name) → x.number ≡ number → binding_key x.binding ≡ binding → r ≡ agree x y
