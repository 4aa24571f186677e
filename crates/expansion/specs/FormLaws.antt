-- Laws of forms: a rule stands at its place; reading rules changes no state and gives rules for each form; every macro of a form has one name.
use Rattle.std.specs.Prelude.{◌≡◌, List, [], ◌∷◌, ◌++◌, ℕ, ◌+◌, length}
use Rattle.std.proofs.Common.{◌∙◌}
use Rattle.words.specs.Each.{Each}
use Rattle.recipe.specs.Name.{Name}
use Rattle.recipe.specs.Tree.{Tree}
use Rattle.expansion.specs.Rules.{Rule}
use Rattle.expansion.specs.Computation.{State, Event, looked, quoted, reached, Events}

-- an event that is no binding
pub data Unbinding : Event → Type 0 where
  looking : {x : Name} → Unbinding (looked x)
  quoting : {x : Name} → Unbinding (quoted x)
  reaching : {x : Name} → Unbinding (reached x)

-- the rules of these forms were read in state s, showing l
pub record RulesRead (P : List Rule → Type 0) (rs : List Tree) (s : State) (rules : List (List Rule)) (t : State) (l : Events) : Type 0 where
  pub unchanged : t ≡ s
  pub count : length rules ≡ length rs
  pub each : Each P rules
  pub shown : Each Unbinding l

-- the counts of a state to which rules for so many forms are added
pub record RulesAdded (n : ℕ) (s : State) (rules : List (List Rule)) (t : State) : Type 0 where
  pub steps : t.steps ≡ s.steps
  pub sum : t.sum ≡ s.sum
  pub variables : t.variables ≡ s.variables
  pub macros : length (t.macros ++ rules) ≡ length s.macros + n
