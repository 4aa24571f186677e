-- A renaming of a template's private name, its copies, and what the first run may show of them.
use Rattle.std.specs.Prelude.{◌≡◌, true, false}
use Rattle.std.proofs.Common.{ap, sym, ◌∙◌, true≢false}
use Rattle.std.proofs.Math.Option.{Option, some}
use Rattle.words.specs.TestLaws.{and_both, and-none-right}
use Rattle.words.specs.Each.{Each}
use Rattle.recipe.specs.Name.{Binding, Name}
use Rattle.expansion.specs.Computation.{looked, quoted, binds, Events}
use Rattle.private_names.specs.Statement as Statement
use Rattle.simulation.specs.Names.Shown.{Fine, Renaming, is_copy, of_copy}

module _ (ρ : Renaming) where
  pub not-private-not-copy : (x : Name) → ρ.is_private x.item ≡ false → (is_copy ρ) x ≡ false
  unfolding Statement.is_copy
  not-private-not-copy x e = and-none-right x.produced _ e

  pub private-copy : (x : Name) → x.produced ≡ true → ρ.is_private x.item ≡ true → (is_copy ρ) x ≡ true
  unfolding Statement.is_copy
  private-copy x e f = and_both _ _ e f

  pub owned-apart : {b c : Option Binding} → (of_copy ρ) b ≡ true → (of_copy ρ) c ≡ false → b ≡ c → ⊥
  owned-apart p q e = true≢false (sym p ∙ ap (of_copy ρ) e ∙ q)

  -- ---- what the first run may show: each lookup of a copy finds a binding whose own name is a copy, and no copy is quoted

  pub looked-fine : (x : Name) → (Fine ρ) (looked x) → (is_copy ρ) x ≡ true → (of_copy ρ) x.binding ≡ true
  unfolding Fine
  looked-fine x f = f

  pub quoted-fine : (x : Name) → (Fine ρ) (quoted x) → (is_copy ρ) x ≡ false
  unfolding Fine
  quoted-fine x f = f

  pub binds-fine : (b : Binding) (x : Name) → (Fine ρ) (binds b x) → (of_copy ρ) (some b) ≡ (is_copy ρ) x
  unfolding Fine
  binds-fine b x f = f

  abbrev pub AllFine : Events → Type 0
  AllFine = Each (Fine ρ)
