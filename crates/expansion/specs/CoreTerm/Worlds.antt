-- The world of a call: the numbers that the names at hand may have, and the variables and macros of the run that they may be bound to.
-- Names and trees of a world, what keeps them in it, and what a lookup finds there.
use Rattle.std.specs.Prelude.{◌≡◌, Bool, true, ℕ, ◌+◌, ◌≤◌, ◌<◌}
use mathlib.Core.List.{List, [], ◌∷◌}
use Rattle.std.proofs.Math.Option.{Option, none, some}
use Rattle.recipe.specs.Name.{Binding, variable, macro, Name}
use Rattle.recipe.specs.Tree.{Tree}
use Rattle.recipe.specs.Tidy.{Tidy}
use Rattle.recipe.specs.TableTidy.{IsConstant}
use Rattle.expansion.specs.Rules.{Rule}
use Rattle.expansion.specs.TidyRules.{TidyRules}
use Rattle.expansion.specs.Lookup.{Form, Found, bound, form, operation, nothing}

pub record World : Type 0 where
  pub names : ℕ → Bool
  pub variables : ℕ → Bool
  pub macros : ℕ → Bool

-- all of W is in W'
pub record Within (W W' : World) : Type 0 where
  pub name : (n : ℕ) → W.names n ≡ true → W'.names n ≡ true
  pub variable : (n : ℕ) → W.variables n ≡ true → W'.variables n ≡ true
  pub macro : (n : ℕ) → W.macros n ≡ true → W'.macros n ≡ true

-- ---- names

pub data Reaches (W : World) : Option Binding → Type 0 where
  reaches_none : Reaches W none
  reaches_variable : {n : ℕ} → W.variables n ≡ true → Reaches W (some (variable n))
  reaches_macro : {n : ℕ} → W.macros n ≡ true → Reaches W (some (macro n))

pub record Fine (W : World) (x : Name) : Type 0 where
  pub number : W.names x.number ≡ true
  pub binding : Reaches W x.binding

-- a tree of the world
abbrev pub FineTree : World → Tree → Type 0
FineTree W = Tidy (Fine W) IsConstant

-- rules of the world
abbrev pub FineRules : World → List Rule → Type 0
FineRules W = TidyRules (Fine W) IsConstant

-- ---- lookups

-- what a lookup finds in the world, with so many operations
pub data Meant (W : World) (count : ℕ) : Found → Type 0 where
  meant_variable : {n : ℕ} → W.variables n ≡ true → Meant W count (bound (variable n))
  meant_macro : {n : ℕ} → W.macros n ≡ true → Meant W count (bound (macro n))
  meant_form : {f : Form} → Meant W count (form f)
  meant_operation : {p : ℕ} → p < count → Meant W count (operation p)
  meant_nothing : Meant W count nothing
