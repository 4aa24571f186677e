-- The names of two runs that differ in a private name, and why sameness and binding agree on them.
pub mod Sameness
pub mod Shown
use Rattle.std.specs.Prelude.{◌≡◌, Bool, List, ℕ}
use Rattle.std.proofs.Common.{◌∙◌}
use Rattle.std.proofs.Math.Bool.{true, false}
use Rattle.std.proofs.Math.Option.{Option}
use Rattle.recipe.specs.Name.{Binding, Name}
use Rattle.simulation.specs.Marks.{Kind, Of}
use Rattle.simulation.specs.Names.Shown.{Renaming, of_copy}

-- ---- what is known of the names of a tree

module _ (ρ : Renaming) where
  -- names of the old number with the same marks are all private or none is; and no private one has the marks of another name of the new number
  pub record Coherent (Q : Kind) : Type 0 where
    pub old : (i j : ℕ) (a b : Bool) (ms : List ℕ) → Q ρ.old i a ms → Q ρ.old j b ms → ρ.is_private i ≡ ρ.is_private j
    pub new : (i j : ℕ) (a b : Bool) (ms : List ℕ) → Q ρ.new i a ms → Q ρ.old j b ms → ρ.is_private j ≡ true → ρ.is_private i ≡ true

  -- every private name has stood in a result: it is a copy
  abbrev pub Ready : Kind → Type 0
  Ready Q = (k i : ℕ) (b : Bool) (ms : List ℕ) → Q k i b ms → ρ.is_private i ≡ true → b ≡ true

  -- what the template's own names are bound to in the two runs: to nothing of a copy's
  pub record Raw : Type 0 where
    pub first : Option Binding
    pub second : Option Binding
    pub first-free : of_copy ρ first ≡ false
    pub second-free : of_copy ρ second ≡ false

-- ---- the relation

module _ (ρ : Renaming) (raw : Raw ρ) where
  -- the bindings of a private name: one binding of a copy's, or those of the template's own name
  pub data Tie : Option Binding → Option Binding → Type 0 where
    owned : {b : Option Binding} → of_copy ρ b ≡ true → Tie b b
    unowned : {b c : Option Binding} → b ≡ raw.first → c ≡ raw.second → Tie b c

  pub record Kept (x y : Name) : Type 0 where
    pub eq : x ≡ y
    pub not-private : ρ.is_private x.item ≡ false
    pub free : of_copy ρ x.binding ≡ false

  pub record Turned (x y : Name) : Type 0 where
    pub private : ρ.is_private x.item ≡ true
    pub old : x.number ≡ ρ.old
    pub new : y.number ≡ ρ.new
    pub item : x.item ≡ y.item
    pub produced : x.produced ≡ y.produced
    pub marks : x.marks ≡ y.marks
    pub tie : Tie x.binding y.binding

  -- names other than private ones are equal; private ones have the old number and the new
  pub data NameRel (Q : Kind) (x y : Name) : Type 0 where
    kept : Of Q x → Kept x y → NameRel Q x y
    turned : Of Q x → Turned x y → NameRel Q x y
