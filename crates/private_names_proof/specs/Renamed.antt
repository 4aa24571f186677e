-- The recipe's expression and the renumbered one differ in one place, the chosen template: `renamed-hole`.
pub mod OldItems
use Rattle.std.proofs.Math.Path.{◌≡◌}
use Rattle.std.proofs.Common.{◌∙◌}
use Rattle.std.specs.Prelude.{eqb}
use Rattle.std.proofs.Math.Bool.{true, false}
use mathlib.Core.List.{[], ◌∷◌, ◌++◌}
use Rattle.std.proofs.Math.Option.{none}
use Prim.Native.Nat.{ℕ, ◌≤◌}
use Rattle.words.specs.Lists.{any_of}
use Rattle.recipe.specs.Tree.{Tree, names, element}
use Rattle.recipe.specs.TreeNames.{TreeAll, uses}
use Rattle.recipe.specs.TableNames.{Plain}
use Rattle.expansion.specs.Rules.{rule_place, rule_template, has_variable}
use Rattle.private_names.specs.Statement.{is_private}
use Rattle.simulation.specs.Names.Shown.{Renaming}
use Rattle.simulation.specs.Form.Scopes.{Scope}
use Rattle.private_names_proof.specs.Renamed.OldItems.{is_old}

-- ---- trees as an item table holds them, and renumbered

-- nothing is bound at the start
abbrev pub unbound : Scope
unbound = λ n. none

-- ---- the chosen rule

-- a tree as an item table holds it: names without marks and bindings, each from an item of its own that tells its number
pub record Held (N : ℕ → ℕ) (t : Tree) : Type 0 where
  pub plain : TreeAll Plain t
  pub numbered : TreeAll (λ x. x.number ≡ N x.item) t
  pub once : (q : ℕ) → uses q t ≤ 1

-- the template of rule j of a rules form
unfoldable pub template_in : ℕ → Tree → Tree
template_in j t = rule_template (element (rule_place t j) t)

-- rule j of the rules form t has the private name in its template, at the private items; that name is no variable of the rule, and the
-- new name is neither in that template nor a variable
pub record Chosen (ρ : Renaming) (j : ℕ) (t : Tree) : Type 0 where
  pub private : (i : ℕ) → ρ.is_private i ≡ any_of (is_old ρ.old i) (names (template_in j t))
  pub some : (i : ℕ) × (ρ.is_private i ≡ true)
  pub fresh : TreeAll (λ x. eqb x.number ρ.new ≡ false) (template_in j t)
  pub old-free : has_variable j ρ.old t ≡ false
  pub new-free : has_variable j ρ.new t ≡ false
