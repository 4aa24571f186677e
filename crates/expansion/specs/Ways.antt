-- What every computation keeps to, on its way from one state to another: counts only grow, the variables and macros that its events bind
-- are numbered in order from the state's counts on, and it is refused on grounds 11 to 18 alone.
pub mod Bindings
pub mod OwnNames
use Rattle.std.specs.Prelude.{◌≡◌, [], ◌++◌, ℕ, ◌+◌, ◌≤◌}
use Rattle.std.proofs.Common.{◌∙◌}
use Rattle.std.proofs.Math.ListN.{length}
use Rattle.expansion.specs.Computation.{State, Events, M, ◌>>=◌, ◌>>◌}
use Rattle.expansion.specs.Outcomes.{Holds}
use Rattle.expansion.specs.Ways.Bindings.{variable_number, macro_number, bound_by, up_from}

-- ---- on the way from one state to another

-- from s to u these events bind v variables and m macros, numbered in order; `late` macros are not counted yet
pub record Way (s u : State) (late : ℕ) (l : Events) : Type 0 where
  pub v : ℕ
  pub m : ℕ
  pub variables-bound : bound_by variable_number l ≡ up_from s.variables v
  pub macros-bound : bound_by macro_number l ≡ up_from (length s.macros) m
  pub steps : s.steps ≤ u.steps
  pub sum : s.sum ≤ u.sum
  pub variables : u.variables ≡ s.variables + v
  pub macros : length u.macros + late ≡ length s.macros + m
  pub macros-grown : length s.macros ≤ length u.macros

-- to a refusal, on a ground from 11 to 18
pub record Broken (s : State) (g : ℕ) (u : State) (l : Events) : Type 0 where
  pub ground_number : (11 ≤ g) × (g ≤ 18)
  pub late : ℕ
  pub way : Way s u late l

-- ---- a computation that keeps to the way, from every state

abbrev pub Keeps : {A : Type 0} → M A → Type 0
Keeps n = (s : State) → Holds (Unit {0}) (Broken s) (λ a u l. Way s u 0 l) (n s)
