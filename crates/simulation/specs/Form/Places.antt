-- The trees of the two runs in place: equal but for the private names of one template. What binding names does to them.
use Rattle.std.specs.Prelude.{◌≡◌, ◌||◌, ℕ}
use Rattle.std.proofs.Common.{◌∙◌}
use Rattle.std.proofs.Math.Bool.{true, false}
use mathlib.Core.List.{[], ◌∷◌}
use Rattle.std.proofs.Math.Dec.{eqb}
use Rattle.recipe.specs.Name.{Name}
use Rattle.recipe.specs.Tree.{Tree}
use Rattle.expansion.specs.Rules.{rule_place, template_place, has_variable}
use Rattle.simulation.specs.Shapes.{TreeOf}
use Rattle.simulation.specs.Form.Holes.{Hole}
use Rattle.simulation.specs.Names.Shown.{Renaming}
pub use Rattle.simulation.specs.Form.Scopes.{Scope, Placed}

module _ (ρ : Renaming) (β : Scope) where
  -- a name that is not private is the same in both
  pub record Still (x y : Name) : Type 0 where
    pub eq : x ≡ y
    pub not-private : ρ.is_private x.item ≡ false
    pub placed : Placed β x

  pub record Turning (x y : Name) : Type 0 where
    pub private : ρ.is_private x.item ≡ true
    pub old : x.number ≡ ρ.old
    pub new : y.number ≡ ρ.new
    pub item : x.item ≡ y.item
    pub first : Placed β x
    pub second : Placed β y

  -- the names of the template: private ones turn, and no other has the old number or the new
  pub data InTemplate (x y : Name) : Type 0 where
    stays : Still x y → eqb x.number ρ.old ≡ false → eqb x.number ρ.new ≡ false → InTemplate x y
    turns : Turning x y → InTemplate x y

  -- the rules form with that template, whose rule has no variable of the old number or the new
  pub record ChosenRules (t u : Tree) : Type 0 where
    pub rule : ℕ
    pub hole : Hole Still (TreeOf InTemplate) (rule_place t rule ∷ template_place ∷ []) t u
    pub old-free : has_variable rule ρ.old t ≡ false
    pub new-free : has_variable rule ρ.new t ≡ false
