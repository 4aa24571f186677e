-- A world that is closed in a state: each of its macros has rules of the world. It stays closed as macros are added,
-- and forms widen it: a lambda by variables, let-syntax and letrec-syntax by macros.
use Rattle.std.specs.Prelude.{◌≡◌, ◌⊎◌, Bool, true, ◌&&◌, ◌||◌, List, [], ◌++◌, ℕ, ◌+◌, ◌-◌, ◌≤◌, ◌<◌, ltb, leb, length, get_or}
use Rattle.std.proofs.Common.{◌∙◌}
use Rattle.core_term.specs.Term.{variables}
use Rattle.expansion.specs.Rules.{Rule}
use Rattle.expansion.specs.Computation.{State}
use Rattle.expansion.specs.CoreTerm.Worlds.{FineRules, World}

-- ---- states

-- every macro of the world has its rules by now, and they are of the world
pub record Closed (W : World) (s : State) : Type 0 where
  pub begun : (n : ℕ) → W.macros n ≡ true → n < length s.macros
  pub rules : (n : ℕ) → W.macros n ≡ true → FineRules W (get_or s.macros n [])

-- macros are only added
pub record Grown (s u : State) : Type 0 where
  pub more : List (List Rule)
  pub macros : u.macros ≡ s.macros ++ more

-- ---- worlds inside forms

-- n more from k on; inside a lambda this is the scope
unfoldable pub widen : ℕ → ℕ → (ℕ → Bool) → ℕ → Bool
widen k n f j = (leb k j && ltb j (k + n)) || f j

-- inside a lambda that binds n variables from k on
unfoldable pub with_variables : ℕ → ℕ → World → World
with_variables k n W = record { names = W.names; variables = widen k n W.variables; macros = W.macros }

-- inside a form that binds n macros from k on
unfoldable pub with_macros : ℕ → ℕ → World → World
with_macros k n W = record { names = W.names; variables = W.variables; macros = widen k n W.macros }
