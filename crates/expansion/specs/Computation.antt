-- A run on its way: its state, what it shows (the events that demand 3 speaks of), and how a computation ends.
-- Events are an output beside the answer, and never an input.
use Rattle.std.specs.Prelude.{Bool, true, false, List, [], ◌++◌, ℕ, suc, ◌+◌}
use Rattle.std.proofs.Math.Option.{Option, none, some}
use Rattle.recipe.specs.Name.{Binding, Name}
use Rattle.expansion.specs.Rules.{Rule}

-- the two counts; the variables so far; the rules of each macro so far, by number
pub record State : Type 0 where
  pub steps : ℕ
  pub sum : ℕ
  pub variables : ℕ
  pub macros : List (List Rule)

unfoldable pub start : State
start = record { steps = 0; sum = 0; variables = 0; macros = [] }

-- a name looked up; a name quoted; a let-syntax or letrec-syntax reached, by its head; a binding made, with its own name
pub data Event : Type 0 where
  looked quoted reached : Name → Event
  binds : Binding → Name → Event

abbrev pub Events : Type 0
Events = List Event

-- done; refused on a ground; or out of gas, which no run is (Gas)
pub data Out (A : Type 0) : Type 0 where
  done : A → State → Events → Out A
  refused : (ground_number : ℕ) → State → Events → Out A
  starved : Events → Out A

abbrev pub M : Type 0 → Type 0
M A = State → Out A

unfoldable pub after : {A : Type 0} → Events → Out A → Out A
after l (done a s k) = done a s (l ++ k)
after l (refused g s k) = refused g s (l ++ k)
after l (starved k) = starved (l ++ k)

unfoldable pub go_on : {A B : Type 0} → (A → M B) → Out A → Out B
go_on f (done a s l) = after l (f a s)
go_on f (refused g s l) = refused g s l
go_on f (starved l) = starved l

unfoldable pub ◌>>=◌ : {A B : Type 0} → M A → (A → M B) → M B
◌>>=◌ m f = λ s. go_on f (m s)

unfoldable pub ◌>>◌ : {A B : Type 0} → M A → M B → M B
◌>>◌ m n = λ s. go_on (λ a. n) (m s)

unfoldable pub give : {A : Type 0} → A → M A
give a = λ s. done a s []

unfoldable pub refuse : {A : Type 0} → ℕ → M A
refuse g = λ s. refused g s []

unfoldable pub show : Events → M (Unit {0})
show l = λ s. done tt s l

-- refuses on ground g unless the test passes
unfoldable pub test : ℕ → Bool → M (Unit {0})
test g true = λ s. done tt s []
test g false = λ s. refused g s []

-- refuses on ground g where the answer is missing
unfoldable pub or_refuse : {A : Type 0} → ℕ → Option A → M A
or_refuse g none = λ s. refused g s []
or_refuse g (some a) = λ s. done a s []

unfoldable pub get : M State
get = λ s. done s s []

-- n new variables
unfoldable pub add_variables : ℕ → M (Unit {0})
add_variables n = λ s. done tt (record { steps = s.steps; sum = s.sum; variables = s.variables + n; macros = s.macros }) []

-- new macros, by their rules
unfoldable pub add_macros : List (List Rule) → M (Unit {0})
add_macros rules = λ s. done tt (record { steps = s.steps; sum = s.sum; variables = s.variables; macros = s.macros ++ rules }) []

-- a step, which costs n
unfoldable pub add_step : ℕ → M (Unit {0})
add_step n = λ s. done tt (record { steps = suc s.steps; sum = s.sum + n; variables = s.variables; macros = s.macros }) []
